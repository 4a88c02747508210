-- The three lists of variables of a system or a check.
use Rattle.std.specs.Prelude.{ℕ, Bool, true, ◌&&◌, is_none, if◌then◌else◌, Option, None, Some, List, [], ◌∷◌, ◌++◌}
use Rattle.text_core.specs.declared.place.Place.{Place}
use Rattle.text_core.specs.declared.place.Refusal.{Refusal}
use Rattle.moxi_sexpr.specs.Tree.{Tree, atom, list, Trees, no_trees, tree}
use Rattle.moxi_term_reading.specs.Forms.{place_in, symbol_atom}
use Rattle.moxi_terms.specs.Meanings.{bare_call, call_of, value_named}
use Rattle.moxi_terms.specs.Names.{function_names, or_else}
use Rattle.name_maps.specs.Names.{place_of}
use Rattle.moxi_terms.specs.View.{ScopeState}
use Rattle.moxi_scripts.specs.declared.parts.Command.{Command}
use Rattle.moxi_scripts.specs.declared.parts.Key.{Key}
use Rattle.moxi_scripts.specs.declared.parts.Key.TheVariants as keys
use Rattle.moxi_scripts.specs.declared.parts.Turn.{Turn}
use Rattle.moxi_scripts.specs.declared.parts.Turn.TheVariants.{AtKeyword, Behind, Passing}
use Rattle.moxi_scripts.specs.declared.parts.Declared.{Declared}
use Rattle.moxi_scripts.specs.declared.parts.DeclaredList.{DeclaredList}
use Rattle.moxi_scripts.specs.declared.parts.Lists.{Lists}
use Rattle.moxi_scripts.specs.Attributes.{turn_after, value_of}
use Rattle.moxi_scripts.specs.Declarations.{is_nil}
use Rattle.moxi_scripts.specs.Entries.{are_entries, entries_of, entries_failures}
use Rattle.moxi_scripts.specs.Shapes.{parts_of}

abbrev pub entries_among : ScopeState → Option Trees → List Declared
entries_among s None = []
entries_among s (Some ts) = entries_of s ts

-- what a list declares; a missing one is empty
abbrev pub listed_entries : ScopeState → Option Tree → List Declared
listed_entries s None = []
listed_entries s (Some t) = entries_among s (parts_of t)

abbrev pub entries_tests : ScopeState → Tree → Option Trees → List Refusal
entries_tests s t None = []
entries_tests s t (Some ts) = entries_failures s (place_in t) ts

abbrev pub listed_failures : ScopeState → Option Tree → List Refusal
listed_failures s None = []
listed_failures s (Some t) = entries_tests s t (parts_of t)

abbrev pub has_entries : Option Trees → Bool
has_entries None = true
has_entries (Some ts) = are_entries ts

-- a list has its shape
abbrev pub list_shape : Option Tree → Bool
list_shape None = true
list_shape (Some t) = has_entries (parts_of t)

abbrev pub list_of : ScopeState → Option Tree → DeclaredList
list_of s o = record { entries = listed_entries s o; shaped = list_shape o; whole = is_nil (listed_failures s o) }

abbrev pub value_at : Command → Key → Trees → Option Tree
value_at command k ts = value_of command k AtKeyword ts

abbrev pub lists_in : ScopeState → Command → Trees → Lists
lists_in s command ts =
    record { inputs = list_of s (value_at command keys.Input ts); outputs = list_of s (value_at command keys.Output ts); locals = list_of s (value_at command keys.Local ts) }

abbrev pub lists_failures : ScopeState → Command → Trees → List Refusal
lists_failures s command ts =
    (listed_failures s (value_at command keys.Input ts) ++ listed_failures s (value_at command keys.Output ts)) ++ listed_failures s (value_at command keys.Local ts)

abbrev pub are_shaped : Lists → Bool
are_shaped l = l.inputs.shaped && (l.outputs.shaped && l.locals.shaped)

-- the variables, in the order in which they are numbered
abbrev pub all_entries : Lists → List Declared
all_entries l = (l.inputs.entries ++ l.outputs.entries) ++ l.locals.entries

-- the variables of the list of a key
abbrev pub entries_at : Lists → Key → List Declared
entries_at l keys.Input = l.inputs.entries
entries_at l keys.Output = l.outputs.entries
entries_at l keys.Local = l.locals.entries
entries_at l k = []

abbrev pub entries_behind : Lists → Turn → List Declared
entries_behind l AtKeyword = []
entries_behind l (Behind k) = entries_at l k
entries_behind l Passing = []

-- the variables, in the order of the text
abbrev pub text_entries : Lists → Command → Turn → Trees → List Declared
text_entries l command turn no_trees = []
text_entries l command turn (tree t ts) = entries_behind l turn ++ text_entries l command (turn_after command turn t) ts

-- NAMES THAT A LIST WITHOUT ITS SHAPE COULD DECLARE

-- a name that is none of a constant or of a function without parameters
abbrev pub is_free : ScopeState → List ℕ → Bool
is_free s name = is_none (or_else (value_named s name) (call_of bare_call s.functions (place_of (function_names s) name)))

abbrev pub possible_symbol : ScopeState → Place → Option (List ℕ × Bool) → List Declared
possible_symbol s p None = []
possible_symbol s p (Some x) = if is_free s x.0 then record { name = x.0; place = p; sort = None } ∷ [] else []

-- each symbol that stands for nothing else, as a variable without a sort
abbrev mutual
  pub possible_in : ScopeState → Tree → List Declared
  possible_in s (atom p a) = possible_symbol s p (symbol_atom a)
  possible_in s (list p ts) = possible_among s ts

  pub possible_among : ScopeState → Trees → List Declared
  possible_among s no_trees = []
  possible_among s (tree t ts) = possible_in s t ++ possible_among s ts

abbrev pub possible_entries : ScopeState → Bool → Trees → List Declared
possible_entries s shaped ts = if shaped then [] else possible_among s ts
