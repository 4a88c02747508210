-- Enumerations, sorts and functions: what a command declares, and the tests that fail.
use Rattle.std.specs.Prelude.{ℕ, nat_lt, length, Bool, true, false, not, ◌&&◌, ◌||◌, is_none, is_some, if◌then◌else◌, Option, None, Some, Result, List, [], ◌∷◌, ◌++◌}
use Rattle.text_core.specs.declared.place.Place.{Place}
use Rattle.text_core.specs.declared.place.Refusal.{Refusal}
use Rattle.moxi_sexpr.specs.Lexing.{refusal}
use Rattle.moxi_sexpr.specs.Tree.{Tree, atom, list, Trees, no_trees, tree}
use Rattle.moxi_terms.specs.declared.data.Sort.{Sort}
use Rattle.moxi_terms.specs.declared.data.Primes.TheVariants.{Refused}
use Rattle.moxi_term_reading.specs.Forms.{place_in, symbol_of, pair_of}
use Rattle.moxi_terms.specs.Names.{is_sort_name, is_term_name, may_be_enumeration, with_enumeration, with_function, with_sort}
use Rattle.name_maps.specs.Names.{place_of}
use Rattle.moxi_term_reading.specs.Reading.{Reading, prime_failures, read}
use Rattle.moxi_term_reading.specs.SortReading.{sort_reading}
use Rattle.moxi_terms.specs.Sorts.{same_sort}
use Rattle.moxi_terms.specs.Tree.{PlainFunction, Tree as TermTree}
use Rattle.moxi_terms.specs.View.{ScopeState}
use Rattle.moxi_scripts.specs.declared.parts.Declared.{Declared}
use Rattle.moxi_scripts.specs.Collecting.{fails_if}
use Rattle.moxi_scripts.specs.Entries.{entries_of, entries_failures, known_sort, locals_among, names_with, sort_failures, twice_failures, variables_of}
use Rattle.moxi_scripts.specs.Shapes.{HeadedForms, NamedForm, headed, misshapen_place, named_in, parts_of, triple_of}

-- NAMES OF CONSTANTS AND FUNCTIONS

-- a constant or a function has this name: one of the scope, or one of these
abbrev pub is_taken : ScopeState → List (List ℕ) → List ℕ → Bool
is_taken s names name = is_term_name s name || not (is_none (place_of names name))

abbrev pub with_term_name : ScopeState → List (List ℕ) → List ℕ → List (List ℕ)
with_term_name s names name = if is_term_name s name then names else names_with names name

abbrev pub term_name_tests : ScopeState → List (List ℕ) → List ℕ → Place → List Refusal
term_name_tests s names name p = fails_if (is_taken s names name) 9 p

-- CONSTANTS

abbrev pub are_symbols : Trees → Bool
are_symbols no_trees = true
are_symbols (tree t ts) = is_some (symbol_of t) && are_symbols ts

abbrev pub symbol_name : Option (List ℕ × Bool) → List (List ℕ)
symbol_name None = []
symbol_name (Some x) = x.0 ∷ []

abbrev pub symbols_in : Trees → List (List ℕ)
symbols_in no_trees = []
symbols_in (tree t ts) = symbol_name (symbol_of t) ++ symbols_in ts

abbrev pub with_constant : ScopeState → List (List ℕ) → Option (List ℕ × Bool) → List (List ℕ)
with_constant s names None = names
with_constant s names (Some x) = with_term_name s names x.0

abbrev pub constant_tests : ScopeState → List (List ℕ) → Place → Option (List ℕ × Bool) → List Refusal
constant_tests s names p None = []
constant_tests s names p (Some x) = prime_failures x.1 p ++ term_name_tests s names x.0 p

abbrev pub with_constants : ScopeState → List (List ℕ) → Trees → List (List ℕ)
with_constants s names no_trees = names
with_constants s names (tree t ts) = with_constants s (with_constant s names (symbol_of t)) ts

-- a constant whose name is taken fails, also by one before it
abbrev pub constants_failures : ScopeState → List (List ℕ) → Trees → List Refusal
constants_failures s names no_trees = []
constants_failures s names (tree t ts) = constant_tests s names (place_in t) (symbol_of t) ++ constants_failures s (with_constant s names (symbol_of t)) ts

-- ENUMERATIONS: `N (c ..)`

-- one or more symbols
abbrev pub may_be_constants : Trees → Bool
may_be_constants cs = are_symbols cs && nat_lt 0 (length (symbols_in cs))

-- the constants of the list of a name
abbrev pub constants_in : NamedForm → Option Trees
constants_in n = parts_of n.form

abbrev pub listed_failures : ScopeState → List (List ℕ) → Place → NamedForm → Option Trees → List Refusal
listed_failures s names p n None = refusal 12 p ∷ []
listed_failures s names p n (Some cs) =
    (prime_failures n.primed n.place ++ fails_if (is_sort_name s n.name) 9 n.place) ++ (constants_failures s names cs ++ fails_if (not (may_be_constants cs)) 12 (place_in n.form))

abbrev pub enumeration_tests : ScopeState → List (List ℕ) → Place → Option NamedForm → List Refusal
enumeration_tests s names p None = refusal 12 p ∷ []
enumeration_tests s names p (Some n) = listed_failures s names p n (constants_in n)

-- the tests of `(declare-enum-sort N (c ..))` at p
abbrev pub enumeration_failures : ScopeState → List (List ℕ) → Place → Trees → List Refusal
enumeration_failures s names p ts = enumeration_tests s names p (named_in (headed ts))

abbrev pub with_new_enumeration : ScopeState → List ℕ → List (List ℕ) → ScopeState
with_new_enumeration s name cs = if may_be_enumeration s name cs then with_enumeration s name cs else s

abbrev pub with_listed : ScopeState → NamedForm → Option Trees → ScopeState
with_listed s n None = s
with_listed s n (Some cs) = if may_be_constants cs then with_new_enumeration s n.name (symbols_in cs) else s

abbrev pub with_named_enumeration : ScopeState → Option NamedForm → ScopeState
with_named_enumeration s None = s
with_named_enumeration s (Some n) = with_listed s n (constants_in n)

-- the scope, and the enumeration, where its names aren't taken
abbrev pub with_read_enumeration : ScopeState → Trees → ScopeState
with_read_enumeration s ts = with_named_enumeration s (named_in (headed ts))

abbrev pub with_listed_names : ScopeState → List (List ℕ) → Option Trees → List (List ℕ)
with_listed_names s names None = names
with_listed_names s names (Some cs) = with_constants s names cs

abbrev pub with_enumeration_names : ScopeState → List (List ℕ) → Option NamedForm → List (List ℕ)
with_enumeration_names s names None = names
with_enumeration_names s names (Some n) = with_listed_names s names (constants_in n)

-- DEFINED SORTS: `N () S`

abbrev pub is_empty_list : Tree → Bool
is_empty_list (atom p a) = false
is_empty_list (list p no_trees) = true
is_empty_list (list p (tree t ts)) = false

abbrev pub parameters_failures : Place → Tree → List Refusal
parameters_failures p t = fails_if (not (is_empty_list t)) 12 (misshapen_place p t)

abbrev pub defined_sort_tests : ScopeState → Place → HeadedForms → Option (Tree × Tree) → List Refusal
defined_sort_tests s p h None = refusal 12 p ∷ []
defined_sort_tests s p h (Some x) =
    (prime_failures h.primed h.place ++ fails_if (is_sort_name s h.name) 9 h.place) ++ (parameters_failures p x.0 ++ sort_failures (sort_reading s p x.1))

abbrev pub sort_tests : ScopeState → Place → Option HeadedForms → List Refusal
sort_tests s p None = refusal 12 p ∷ []
sort_tests s p (Some h) = defined_sort_tests s p h (pair_of h.rest)

-- the tests of `(define-sort N () S)` at p
abbrev pub sort_definition_failures : ScopeState → Place → Trees → List Refusal
sort_definition_failures s p ts = sort_tests s p (headed ts)

abbrev pub with_sort_if : ScopeState → List ℕ → Option Sort → ScopeState
with_sort_if s name None = s
with_sort_if s name (Some sort) = if not (is_sort_name s name) then with_sort s name sort else s

abbrev pub with_defined_sort : ScopeState → Place → HeadedForms → Option (Tree × Tree) → ScopeState
with_defined_sort s p h None = s
with_defined_sort s p h (Some x) = with_sort_if s h.name (known_sort (sort_reading s p x.1))

abbrev pub with_sort_of : ScopeState → Place → Option HeadedForms → ScopeState
with_sort_of s p None = s
with_sort_of s p (Some h) = with_defined_sort s p h (pair_of h.rest)

-- the scope, and the sort, where its name isn't taken
abbrev pub with_read_sort : ScopeState → Place → Trees → ScopeState
with_read_sort s p ts = with_sort_of s p (headed ts)

-- FUNCTIONS: `f ((x S) ..) S t`

abbrev pub clash_failures : Option Sort → Option Sort → Place → List Refusal
clash_failures (Some a) (Some b) p = fails_if (not (same_sort a b)) 5 p
clash_failures None b p = []
clash_failures (Some a) None p = []

-- the parameters, the sort of the result and the body
pub record FunctionForms : Type 0 where
  pub name : HeadedForms
  pub place : Place
  pub parameters : Trees
  pub result : Tree
  pub body : Tree

abbrev pub result_sort : ScopeState → Place → FunctionForms → Result Sort Refusal
result_sort s p f = sort_reading s p f.result

-- a term over these variables, in which no name is primed
abbrev pub read_over : ScopeState → List Declared → Tree → Reading
read_over s ds t = read (record { scope = s; variables = locals_among ds; primes = Refused }) [] t

-- the body is read over the parameters
abbrev pub body_reading : ScopeState → FunctionForms → Reading
body_reading s f = read_over s (entries_of s f.parameters) f.body

-- the tests of the parts of a function's definition at p
abbrev pub part_failures : ScopeState → Place → FunctionForms → List Refusal
part_failures s p f =
    (entries_failures s f.place f.parameters ++ sort_failures (result_sort s p f))
    ++ ((body_reading s f).failures ++ clash_failures (known_sort (result_sort s p f)) (body_reading s f).sort (place_in f.body))

-- those of its names
abbrev pub name_failures : ScopeState → List (List ℕ) → FunctionForms → List Refusal
name_failures s names f =
    (prime_failures f.name.primed f.name.place ++ term_name_tests s names f.name.name f.name.place) ++ twice_failures [] (entries_of s f.parameters)

abbrev pub with_list : Place → HeadedForms → Tree → Tree → Tree → Option Trees → Option FunctionForms
with_list q h t u v None = None
with_list q h t u v (Some ps) = Some (record { name = h; place = q; parameters = ps; result = u; body = v })

abbrev pub function_parts : HeadedForms → Option (Tree × Tree × Tree) → Option FunctionForms
function_parts h None = None
function_parts h (Some x) = with_list (place_in x.0) h x.0 x.1 x.2 (parts_of x.0)

abbrev pub function_in : Option HeadedForms → Option FunctionForms
function_in None = None
function_in (Some h) = function_parts h (triple_of h.rest)

-- the parts of a function's definition, where it has its shape
abbrev pub function_forms : Trees → Option FunctionForms
function_forms ts = function_in (headed ts)

abbrev pub function_tests : ScopeState → List (List ℕ) → Place → Option FunctionForms → List Refusal
function_tests s names p None = refusal 12 p ∷ []
function_tests s names p (Some f) = name_failures s names f ++ part_failures s p f

-- the tests of `(define-fun f ((x S) ..) S t)` at p
abbrev pub function_failures : ScopeState → List (List ℕ) → Place → Trees → List Refusal
function_failures s names p ts = function_tests s names p (function_forms ts)

abbrev pub is_nil : List Refusal → Bool
is_nil [] = true
is_nil (f ∷ fs) = false

abbrev pub with_new_function : ScopeState → PlainFunction → ScopeState
with_new_function s f = if not (is_term_name s f.name) then with_function s f else s

abbrev pub typed_function : List ℕ → List Declared → TermTree → Sort → PlainFunction
typed_function name ds t r = record { name = name; parameters = variables_of ds; result = r; body = t }

abbrev pub with_typed : ScopeState → List ℕ → List Declared → TermTree → Option Sort → ScopeState
with_typed s name ds t None = s
with_typed s name ds t (Some r) = with_new_function s (typed_function name ds t r)

abbrev pub with_typed_function : ScopeState → FunctionForms → Option Sort → ScopeState
with_typed_function s f o = with_typed s f.name.name (entries_of s f.parameters) (body_reading s f).term o

abbrev pub with_function_of : ScopeState → Place → Option FunctionForms → ScopeState
with_function_of s p None = s
with_function_of s p (Some f) = if is_nil (part_failures s p f) then with_typed_function s f (known_sort (result_sort s p f)) else s

-- the scope, and the function, where no test of its parts fails and its name isn't taken
abbrev pub with_read_function : ScopeState → Place → Trees → ScopeState
with_read_function s p ts = with_function_of s p (function_forms ts)

abbrev pub with_function_name : ScopeState → List (List ℕ) → Option FunctionForms → List (List ℕ)
with_function_name s names None = names
with_function_name s names (Some f) = with_term_name s names f.name.name

abbrev pub parameters_in : ScopeState → Option FunctionForms → List Declared
parameters_in s None = []
parameters_in s (Some f) = entries_of s f.parameters
