-- Names: their places in lists, and what a scope declares by them.
use Rattle.std.specs.Prelude.{ℕ, ◌+◌, suc, Bool, not, ◌&&◌, ◌||◌, if◌then◌else◌, Option, None, Some, is_some, option_and_then, List, [], ◌∷◌, ◌++◌, map, length, slice_get, slice_index_or, codes}
use Rattle.std.specs.Option.{option_map}
use Rattle.std.specs.List.{list_any}
use Rattle.std.specs.Str.{bytes_eq}
use Rattle.moxi_terms.specs.declared.data.Sort.{Sort}
use Rattle.moxi_terms.specs.declared.data.Sort.TheVariants.{Truth, Choice}
use Rattle.moxi_terms.specs.declared.term.Enumeration.{Enumeration}
use Rattle.moxi_terms.specs.declared.term.NamedSort.{NamedSort}
use Rattle.moxi_terms.specs.Tree.{PlainFunction}
use Rattle.moxi_terms.specs.View.{ScopeState}
use Rattle.moxi_terms.specs.Words.{is_operator}
use Rattle.name_maps.specs.Names.{place_of, are_fresh}

abbrev pub is_among : List (List ℕ) → List ℕ → Bool
is_among names name = is_some (place_of names name)

abbrev pub enumeration_names : ScopeState → List (List ℕ)
enumeration_names s = map (λ (e : Enumeration). e.name) s.enumerations

abbrev pub sort_names : ScopeState → List (List ℕ)
sort_names s = map (λ (n : NamedSort). n.name) s.sorts

abbrev pub function_names : ScopeState → List (List ℕ)
function_names s = map (λ (f : PlainFunction). f.name) s.functions

-- the constants of all enumerations
abbrev pub all_constants : List Enumeration → List (List ℕ)
all_constants [] = []
all_constants (e ∷ es) = e.constants ++ all_constants es

-- how many constants the enumeration number n has
abbrev pub constant_count : List Enumeration → ℕ → ℕ
constant_count es n = length (slice_index_or es n (record { name = []; constants = [] })).constants

-- a number for each constant, from i on, in the enumeration number n
abbrev pub numbered : ℕ → ℕ → List (List ℕ) → List (ℕ × ℕ)
numbered n i [] = []
numbered n i (c ∷ cs) = (n, i) ∷ numbered n (suc i) cs

-- for each constant the number of its enumeration, counted from n, and its own number there
abbrev pub constant_numbers : ℕ → List Enumeration → List (ℕ × ℕ)
constant_numbers n [] = []
constant_numbers n (e ∷ es) = numbered n 0 e.constants ++ constant_numbers (suc n) es

-- the numbers of the constant of this name
abbrev pub constant_named : ScopeState → List ℕ → Option (ℕ × ℕ)
constant_named s name = option_and_then (slice_get (constant_numbers 0 s.enumerations)) (place_of (all_constants s.enumerations) name)

abbrev pub or_else : {A : Type 0} → Option A → Option A → Option A
or_else None o = o
or_else (Some x) o = Some x

abbrev pub declared_sort : ScopeState → List ℕ → Option Sort
declared_sort s name =
    or_else (option_map Choice (place_of (enumeration_names s) name))
    (option_map (λ (n : NamedSort). n.sort) (option_and_then (slice_get s.sorts) (place_of (sort_names s) name)))

-- the sort of this name
abbrev pub sort_named : ScopeState → List ℕ → Option Sort
sort_named s name = if bytes_eq name (codes "Bool") then Some Truth else declared_sort s name

-- a sort has this name; `Bool` and `BitVec` count as declared
abbrev pub is_sort_name : ScopeState → List ℕ → Bool
is_sort_name s name = bytes_eq name (codes "Bool") || (bytes_eq name (codes "BitVec") || (is_among (enumeration_names s) name || is_among (sort_names s) name))

-- a constant or a function has this name; the operators, `true` and `false` count as declared
abbrev pub is_term_name : ScopeState → List ℕ → Bool
is_term_name s name =
    is_operator name || (bytes_eq name (codes "true") || (bytes_eq name (codes "false") || (is_among (all_constants s.enumerations) name || is_among (function_names s) name)))

-- each of these constants has a name of its own
abbrev pub may_be_constants : ScopeState → List (List ℕ) → Bool
may_be_constants s names =
    not (list_any (is_term_name s) names) && are_fresh (all_constants s.enumerations) names

-- the enumeration may be added
abbrev pub may_be_enumeration : ScopeState → List ℕ → List (List ℕ) → Bool
may_be_enumeration s name constants = not (is_sort_name s name) && may_be_constants s constants

abbrev pub with_enumeration : ScopeState → List ℕ → List (List ℕ) → ScopeState
with_enumeration s name constants = record s { enumerations = s.enumerations ++ record { name = name; constants = constants } ∷ [] }

abbrev pub with_sort : ScopeState → List ℕ → Sort → ScopeState
with_sort s name sort = record s { sorts = s.sorts ++ record { name = name; sort = sort } ∷ [] }

abbrev pub with_function : ScopeState → PlainFunction → ScopeState
with_function s f = record s { functions = s.functions ++ f ∷ [] }

-- nothing is declared
abbrev pub no_scope : ScopeState
no_scope = record { enumerations = []; sorts = []; functions = [] }
