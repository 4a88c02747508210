-- What a scope keeps beside the lists of what was added, and its elements behind references.
use Rattle.std.specs.Prelude.{◌≡◌, ◌<◌, ◌^◌, ℕ, Option, None, Some, List, length, take}
use Rattle.std.specs.Borrow.{Bor}
use Rattle.moxi_terms.specs.declared.term.NamedSort.{NamedSort}
use Rattle.moxi_terms.specs.declared.term.Function.{Function}
use Rattle.moxi_terms.specs.Tree.{PlainFunction}
use Rattle.moxi_terms.specs.View.{ScopeState, plain_function}
use Rattle.moxi_terms.specs.Names.{enumeration_names, sort_names, function_names, all_constants, constant_numbers}
use Rattle.moxi_terms.specs.Sorted.{IsScope}

-- the names of what was added, in its order, and numbers for the constants; numbers behind theirs count for nothing
pub record IsNameIndex (s : ScopeState) (enumerations sorts functions constants : List (List ℕ)) (numbers : List (ℕ × ℕ)) : Type 0 where
  pub scope : IsScope s
  pub enumeration_names : enumerations ≡ enumeration_names s
  pub sort_names : sorts ≡ sort_names s
  pub function_names : functions ≡ function_names s
  pub constant_names : constants ≡ all_constants s.enumerations
  pub constant_numbers : take (length (all_constants s.enumerations)) numbers ≡ constant_numbers 0 s.enumerations
  pub few_enumerations : length s.enumerations < 2 ^ 32
  pub few_sorts : length s.sorts < 2 ^ 32
  pub few_functions : length s.functions < 2 ^ 32
  pub few_constants : length (all_constants s.enumerations) < 2 ^ 32

abbrev pub enumeration_now : Option (Bor (List ℕ)) → Option (List ℕ)
enumeration_now None = None
enumeration_now (Some x) = Some x.now

abbrev pub constants_now : Option (Bor (List (List ℕ))) → Option (List (List ℕ))
constants_now None = None
constants_now (Some x) = Some x.now

abbrev pub named_sort_now : Option (Bor NamedSort) → Option NamedSort
named_sort_now None = None
named_sort_now (Some x) = Some x.now

abbrev pub function_now : Option (Bor Function) → Option PlainFunction
function_now None = None
function_now (Some x) = Some (plain_function x.now)
