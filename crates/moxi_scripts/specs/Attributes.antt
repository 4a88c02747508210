-- The attributes of a command. A known keyword takes the next form, an unknown one the forms up to the next keyword.
use Rattle.std.specs.Prelude.{◌==◌, ℕ, ◌+◌, nat_le, Bool, true, false, ◌&&◌, ◌||◌, is_some, is_none, if◌then◌else◌, Option, None, Some, List, [], ◌++◌, codes}
use Rattle.std.specs.Str.{bytes_eq}
use Rattle.text_core.specs.declared.place.Refusal.{Refusal}
use Rattle.text_core.specs.declared.place.Place.{Place}
use Rattle.moxi_sexpr.specs.declared.form.Atom.{Atom}
use Rattle.moxi_sexpr.specs.declared.form.Atom.TheVariants.{Symbol, Keyword, Numeral, Binary, Hex, Quote}
use Rattle.moxi_sexpr.specs.Tree.{Tree, atom, list, Trees, no_trees, tree}
use Rattle.moxi_term_reading.specs.Forms.{place_in}
use Rattle.moxi_terms.specs.Names.{or_else}
use Rattle.moxi_scripts.specs.declared.parts.Key.{Key}
use Rattle.moxi_scripts.specs.declared.parts.Key.TheVariants.{Input, Output, Local, Init, Trans, Inv, Subsystem, Assumption, Current, Reachable, Query, Queries}
use Rattle.moxi_scripts.specs.declared.parts.Command.{Command}
use Rattle.moxi_scripts.specs.declared.parts.Command.TheVariants.{System, Check}
use Rattle.moxi_scripts.specs.declared.parts.Turn.{Turn}
use Rattle.moxi_scripts.specs.declared.parts.Turn.TheVariants.{AtKeyword, Behind, Passing}
use Rattle.moxi_scripts.specs.Collecting.{fails_if}

abbrev pub key_number : Key → ℕ
key_number Input = 0
key_number Output = 1
key_number Local = 2
key_number Init = 3
key_number Trans = 4
key_number Inv = 5
key_number Subsystem = 6
key_number Assumption = 7
key_number Current = 8
key_number Reachable = 9
key_number Query = 10
key_number Queries = 11

abbrev pub same_key : Key → Key → Bool
same_key a b = key_number a == key_number b

abbrev pub list_key : List ℕ → Option Key
list_key name = if bytes_eq name (codes "input") then Some Input else (if bytes_eq name (codes "output") then Some Output else (if bytes_eq name (codes "local") then Some Local else None))

abbrev pub system_key : List ℕ → Option Key
system_key name =
    if bytes_eq name (codes "init") then Some Init else (if bytes_eq name (codes "trans") then Some Trans
    else (if bytes_eq name (codes "inv") then Some Inv else (if bytes_eq name (codes "subsys") then Some Subsystem else None)))

abbrev pub check_key : List ℕ → Option Key
check_key name =
    if bytes_eq name (codes "assumption") then Some Assumption else (if bytes_eq name (codes "current") then Some Current
    else (if bytes_eq name (codes "reachable") then Some Reachable else (if bytes_eq name (codes "query") then Some Query
    else (if bytes_eq name (codes "queries") then Some Queries else None))))

abbrev pub command_key : Command → List ℕ → Option Key
command_key System name = system_key name
command_key Check name = check_key name

-- the key that a keyword has in such a command
abbrev pub key_named : Command → List ℕ → Option Key
key_named command name = or_else (list_key name) (command_key command name)

abbrev pub keyword_atom : Atom → Option (List ℕ)
keyword_atom (Symbol name primed) = None
keyword_atom (Keyword name) = Some name
keyword_atom (Numeral digits) = None
keyword_atom (Binary digits) = None
keyword_atom (Hex digits) = None
keyword_atom (Quote bytes) = None

abbrev pub keyword_of : Tree → Option (List ℕ)
keyword_of (atom p a) = keyword_atom a
keyword_of (list p ts) = None

abbrev pub is_list_form : Tree → Bool
is_list_form (atom p a) = false
is_list_form (list p ts) = true

abbrev pub key_turn : Option Key → Turn
key_turn None = Passing
key_turn (Some k) = Behind k

abbrev pub keyword_turn : Command → Option (List ℕ) → Turn → Turn
keyword_turn command None other = other
keyword_turn command (Some name) other = key_turn (key_named command name)

-- what is behind a form
abbrev pub turn_after : Command → Turn → Tree → Turn
turn_after command AtKeyword t = keyword_turn command (keyword_of t) AtKeyword
turn_after command (Behind k) t = AtKeyword
turn_after command Passing t = keyword_turn command (keyword_of t) Passing

-- the value is a term; every other one is a list
abbrev pub takes_term : Key → Bool
takes_term Init = true
takes_term Trans = true
takes_term Inv = true
takes_term k = false

-- the form may appear there
abbrev pub turns_start : Turn → Tree → Bool
turns_start AtKeyword t = is_some (keyword_of t)
turns_start (Behind k) t = takes_term k || is_list_form t
turns_start Passing t = true

abbrev pub turns_end : Turn → Bool
turns_end AtKeyword = true
turns_end (Behind k) = false
turns_end Passing = true

-- each form stands where it may
abbrev pub turns_fit : Command → Turn → Trees → Bool
turns_fit command turn no_trees = turns_end turn
turns_fit command turn (tree t ts) = turns_start turn t && turns_fit command (turn_after command turn t) ts

abbrev pub unknown_keyword : Command → Option (List ℕ) → Place → List Refusal
unknown_keyword command None p = []
unknown_keyword command (Some name) p = fails_if (is_none (key_named command name)) 6 p

abbrev pub unknown_tests : Command → Turn → Tree → List Refusal
unknown_tests command AtKeyword t = unknown_keyword command (keyword_of t) (place_in t)
unknown_tests command (Behind k) t = []
unknown_tests command Passing t = unknown_keyword command (keyword_of t) (place_in t)

-- an unknown keyword fails
abbrev pub unknown_failures : Command → Turn → Trees → List Refusal
unknown_failures command turn no_trees = []
unknown_failures command turn (tree t ts) = unknown_tests command turn t ++ unknown_failures command (turn_after command turn t) ts

abbrev pub is_behind : Key → Turn → Bool
is_behind k AtKeyword = false
is_behind k (Behind other) = same_key k other
is_behind k Passing = false

-- how many values a key has
abbrev pub count_of : Command → Key → Turn → Trees → ℕ
count_of command k turn no_trees = 0
count_of command k turn (tree t ts) = (if is_behind k turn then 1 else 0) + count_of command k (turn_after command turn t) ts

-- the first value of a key
abbrev pub value_of : Command → Key → Turn → Trees → Option Tree
value_of command k turn no_trees = None
value_of command k turn (tree t ts) = if is_behind k turn then Some t else value_of command k (turn_after command turn t) ts

abbrev pub occurs_once : Command → Trees → Key → Bool
occurs_once command ts k = nat_le (count_of command k AtKeyword ts) 1

-- the attributes of a command have their shape, and none that stands once occurs twice
abbrev pub shape_holds : Command → Trees → Bool
shape_holds command ts =
    turns_fit command AtKeyword ts && (occurs_once command ts Input && (occurs_once command ts Output && (occurs_once command ts Local
    && (occurs_once command ts Init && (occurs_once command ts Trans && occurs_once command ts Inv)))))
