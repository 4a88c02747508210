-- The cases in which a command changes a scope.
use Rattle.std.proofs.Common.{◌≡◌, ℕ, ◌<◌, Bool, true, false, not, cond, nat_lt, IfOk, Option, None, Some, Result, Ok, Err, List, [], length, refl, arith}
use Rattle.std.proofs.lemmas.Bool.{and_parts}
use Rattle.std.proofs.lemmas.Bool.Decides.{nat_tests}
use Rattle.text_core.specs.declared.place.Place.{Place}
use Rattle.text_core.specs.declared.place.Refusal.{Refusal}
use Rattle.moxi_sexpr.specs.Tree as form
use Rattle.moxi_terms.specs.declared.data.Sort.{Sort}
use Rattle.moxi_terms.specs.Names.{is_sort_name, is_term_name, may_be_enumeration, with_enumeration, with_function, with_sort}
use Rattle.moxi_term_reading.specs.SortReading.{sort_reading}
use Rattle.moxi_terms.specs.Sorts.{IsSort}
use Rattle.moxi_terms.specs.Tree.{PlainFunction}
use Rattle.moxi_terms.specs.View.{ScopeState}
use Rattle.moxi_scripts.specs.Declarations as declare
use Rattle.moxi_scripts.specs.Declarations.{FunctionForms, body_reading, constants_in, is_nil, part_failures, result_sort, symbols_in, typed_function, with_read_enumeration, with_read_sort}
use Rattle.moxi_scripts.specs.Entries.{entries_of, known_sort}
use Rattle.moxi_scripts.specs.Shapes.{HeadedForms, NamedForm, headed, named_in}
use Rattle.moxi_term_reading.specs.Forms.{pair_of}
use Rattle.moxi_scripts.proofs.FunctionLaws.{nil_is}
use Rattle.moxi_scripts.specs.laws.WholeScopes.{IsNewEnumeration, new_enumeration}

-- an enumeration: nothing, or one more
module _ (P : ScopeState → Type 0) (s : ScopeState) (same : P s) (more : (name : List ℕ) (cs : List (List ℕ)) → IsNewEnumeration s name cs → P (with_enumeration s name cs)) where
  enumeration_new : (name : List ℕ) (cs : List (List ℕ)) → 0 < length cs → P (declare.with_new_enumeration s name cs)
  enumeration_new name cs l = by_test (may_be_enumeration s name cs) (λ e. more name cs (new_enumeration s name cs l e))
    where
      by_test : (b : Bool) → (b ≡ true → P (with_enumeration s name cs)) → P (cond b (with_enumeration s name cs) s)
      by_test true f = f refl
      by_test false f = same

  enumeration_listed : (n : NamedForm) (o : Option form.Trees) → P (declare.with_listed s n o)
  enumeration_listed n None = same
  enumeration_listed n (Some cs) = by_test (declare.may_be_constants cs) (λ e. let p = and_parts (declare.are_symbols cs) (nat_lt 0 (length (symbols_in cs))) e in enumeration_new n.name (symbols_in cs) (grind (arith, nat_tests)))
    where
      by_test : (b : Bool) → (b ≡ true → P (declare.with_new_enumeration s n.name (symbols_in cs))) → P (cond b (declare.with_new_enumeration s n.name (symbols_in cs)) s)
      by_test true f = f refl
      by_test false f = same

  pub enumeration_cases : (ts : form.Trees) → P (with_read_enumeration s ts)
  enumeration_cases ts = by_name (named_in (headed ts))
    where
      by_name : (o : Option NamedForm) → P (declare.with_named_enumeration s o)
      by_name None = same
      by_name (Some n) = enumeration_listed n (constants_in n)

-- a sort: nothing, or one more
module _ (P : ScopeState → Type 0) (s : ScopeState) (same : P s) (more : (name : List ℕ) (sort : Sort) → is_sort_name s name ≡ false → IsSort s.enumerations sort → P (with_sort s name sort))
    (sorts : (around : Place) (t : form.Tree) → IfOk (sort_reading s around t) (IsSort s.enumerations)) where
  sort_if : (name : List ℕ) (r : Result Sort Refusal) → IfOk r (IsSort s.enumerations) → P (declare.with_sort_if s name (known_sort r))
  sort_if name (Err f) is = same
  sort_if name (Ok sort) is = by_test (is_sort_name s name) (λ e. more name sort e is)
    where
      by_test : (b : Bool) → (b ≡ false → P (with_sort s name sort)) → P (cond (not b) (with_sort s name sort) s)
      by_test true f = same
      by_test false f = f refl

  sort_defined : (p : Place) (h : HeadedForms) (o : Option (form.Tree × form.Tree)) → P (declare.with_defined_sort s p h o)
  sort_defined p h None = same
  sort_defined p h (Some x) = sort_if h.name (sort_reading s p x.1) (sorts p x.1)

  pub sort_cases : (p : Place) (ts : form.Trees) → P (with_read_sort s p ts)
  sort_cases p ts = by_head (headed ts)
    where
      by_head : (o : Option HeadedForms) → P (declare.with_sort_of s p o)
      by_head None = same
      by_head (Some h) = sort_defined p h (pair_of h.rest)

-- the function that these forms define, with a result of this sort
abbrev pub function_of : ScopeState → FunctionForms → Sort → PlainFunction
function_of s f r = typed_function f.name.name (entries_of s f.parameters) (body_reading s f).term r

-- the function's parts have no failing test, and its name is new
pub record IsNewFunction (s : ScopeState) (p : Place) (f : FunctionForms) (r : Sort) : Type 0 where
  pub parts : part_failures s p f ≡ []
  pub result : known_sort (result_sort s p f) ≡ Some r
  pub name : is_term_name s f.name.name ≡ false

-- a function: nothing, or one more
module _ (P : ScopeState → Type 0) (s : ScopeState) (p : Place) (o : Option FunctionForms) (same : P s)
    (more : (f : FunctionForms) (r : Sort) → o ≡ Some f → IsNewFunction s p f r → P (with_function s (function_of s f r))) where
  function_typed : (f : FunctionForms) → o ≡ Some f → part_failures s p f ≡ [] → (x : Option Sort) → known_sort (result_sort s p f) ≡ x → P (declare.with_typed_function s f x)
  function_typed f e h None k = same
  function_typed f e h (Some r) k = by_test (is_term_name s f.name.name) (λ n. more f r e (record { parts = h; result = k; name = n }))
    where
      by_test : (b : Bool) → (b ≡ false → P (with_function s (function_of s f r))) → P (cond (not b) (with_function s (function_of s f r)) s)
      by_test true g = same
      by_test false g = g refl

  pub function_cases : P (declare.with_function_of s p o)
  function_cases = by_forms o refl
    where
      by_forms : (x : Option FunctionForms) → o ≡ x → P (declare.with_function_of s p x)
      by_forms None e = same
      by_forms (Some f) e = by_test (is_nil (part_failures s p f)) (λ h. function_typed f e (nil_is (part_failures s p f) h) (known_sort (result_sort s p f)) refl)
        where
          by_test : (b : Bool) → (b ≡ true → P (declare.with_typed_function s f (known_sort (result_sort s p f)))) → P (cond b (declare.with_typed_function s f (known_sort (result_sort s p f))) s)
          by_test true g = g refl
          by_test false g = same
