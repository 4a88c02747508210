-- What is before a function of a valid scope grows to the scope, so that the function's body can appear in all of it; and the
-- names of the sorts mean them.
use Rattle.std.proofs.Common.{◌≡◌, ℕ, zero, suc, true, false, is_some, is_none, Option, None, Some, List, [], ◌∷◌, ◌++◌, map, take, drop, refl, sym, ap, ◌∙◌, subst, append-nil}
use Rattle.std.specs.Prelude.{slice_get, codes}
use Rattle.std.specs.List.{AllByRecursion, list_any}
use Rattle.std.specs.Str.{bytes_eq}
use Rattle.std.proofs.lemmas.List.{take-append-drop}
use Rattle.moxi_terms.specs.declared.data.Primes.TheVariants.{Refused}
use Rattle.moxi_terms.specs.declared.data.Sort.{Sort}
use Rattle.moxi_term_reading.specs.declared.locals.Local.{Local}
use Rattle.moxi_terms.specs.Names.{all_constants, enumeration_names, function_names, is_among, is_term_name, sort_names}
use Rattle.name_maps.specs.Names.{are_fresh, place_of}
use Rattle.moxi_term_reading.specs.Reading.{Context}
use Rattle.moxi_terms.specs.Sorted.{AreSorts}
use Rattle.moxi_terms.specs.Sorts.{IsSort}
use Rattle.moxi_terms.specs.Tree.{PlainFunction, Tree, sorts_of}
use Rattle.moxi_terms.specs.View.{ScopeState}
use Rattle.moxi_term_print.specs.WellScoped.{IsWellScoped}
use Rattle.moxi_term_print.specs.StandingGrows.{Grows, in_scope}
use Rattle.moxi_term_print.specs.WellScopedReads.{HasSortNames}
use Rattle.moxi_scripts.specs.Valid.{IsValidScope, before, is_fixed_sort, is_fixed_term, over}
use Rattle.moxi_scripts.specs.laws.WholeNames.{Absent, absent_parts, fresh_first, fresh_split, is_absent, or_both, or_parts, other_way}
use Rattle.moxi_scripts.specs.laws.WholeParts.{all_parts, map_append}
use Rattle.moxi_scripts.specs.laws.WholeScopes.{term_new}
use Rattle.moxi_scripts.proofs.WholeGrowth.{none_equal}
use Rattle.moxi_terms.proofs.ScopeLaws.{all_of}

-- a term that can appear in a scope can appear in one that has grown from it
abbrev pub TermsStandOn : Type 0
TermsStandOn = (c : Context) (bounds : List Local) (t : Tree) (s : Sort) (u : ScopeState) → IsWellScoped c bounds t s → Grows c.scope u → IsWellScoped (in_scope c u) bounds t s

is_some_not : {A : Type 0} (o : Option A) → is_none o ≡ true → is_some o ≡ false
is_some_not None h = refl
is_some_not (Some x) h = absurd (cc)

not_among : (names : List (List ℕ)) (name : List ℕ) → Absent names name → is_among names name ≡ false
not_among names name h = is_some_not (place_of names name) (is_absent names name h)

-- names that differ from those before them stand nowhere among these
fresh_absent : (front names : List (List ℕ)) → are_fresh front names ≡ true → AllByRecursion (Absent front) names
fresh_absent front [] h = tt
fresh_absent front (name ∷ names) h =
    let p = fresh_first front name names h in
    (p.0, all_of (Absent (front ++ name ∷ [])) (Absent front) names (λ x a. (absent_parts front (name ∷ []) x a).0) (fresh_absent (front ++ name ∷ []) names p.1))

all_two : {A : Type 0} (P Q R : A → Type 0) (xs : List A) → ((x : A) → P x → Q x → R x) → AllByRecursion P xs → AllByRecursion Q xs → AllByRecursion R xs
all_two P Q R [] f a b = tt
all_two P Q R (x ∷ xs) f a b = (f x a.0 b.0, all_two P Q R xs f a.1 b.1)

abbrev names_in : List PlainFunction → List (List ℕ)
names_in fs = map (λ (f : PlainFunction). f.name) fs

module _ (s : ScopeState) (w : IsValidScope s) (n : ℕ) where
  -- the functions from this one on have names that what is before it hasn't
  later_new : AllByRecursion (λ (name : List ℕ). is_term_name (before s n) name ≡ false) (names_in (drop n s.functions))
  later_new =
      let cs = all_constants s.enumerations in
      let front = names_in (take n s.functions) in
      let back = names_in (drop n s.functions) in
      let fixed = λ (name : List ℕ). is_fixed_term name ≡ false in
      let split : function_names s ≡ front ++ back = ap names_in (sym (take-append-drop n s.functions)) ∙ map_append (λ (f : PlainFunction). f.name) (take n s.functions) (drop n s.functions) in
      let differ = (fresh_split [] cs (front ++ back) (subst (λ ns. are_fresh [] (cs ++ ns) ≡ true) split w.terms.differ)).1 in
      let free = (all_parts fixed cs (front ++ back) (subst (λ ns. AllByRecursion fixed (cs ++ ns)) split w.terms.free)).1 in
      all_two (Absent (cs ++ front)) fixed (λ (name : List ℕ). is_term_name (before s n) name ≡ false) back
      (λ name a o. let p = absent_parts cs front name a in term_new (before s n) name (record { free = o; constants = p.0; functions = p.1 }))
      (fresh_absent (cs ++ front) back (fresh_split cs front back differ).1) (all_parts fixed front back free).1

  before_grows : Grows (before s n) s
  before_grows = record {
    enumerations = [];
    sorts = [];
    functions = drop n s.functions;
    all_enumerations = sym (append-nil s.enumerations);
    all_sorts = sym (append-nil s.sorts);
    all_functions = sym (take-append-drop n s.functions);
    fresh = λ name h. (not_among [] name refl, not_among (names_in (drop n s.functions)) name (none_equal (before s n) name (names_in (drop n s.functions)) h later_new));
  }

-- a function's body can appear in the whole scope, over its parameters
pub record StandsInAll (s : ScopeState) (f : PlainFunction) : Type 0 where
  pub parameters : AreSorts s.enumerations (sorts_of f.parameters)
  pub result : IsSort s.enumerations f.result
  pub body : IsWellScoped (over s f.parameters Refused) [] f.body f.result

all_by_place : {A : Type 0} (P : A → Type 0) (xs : List A) → ((n : ℕ) (x : A) → slice_get xs n ≡ Some x → P x) → AllByRecursion P xs
all_by_place P [] f = tt
all_by_place P (x ∷ xs) f = (f zero x refl, all_by_place P xs (λ n y h. f (suc n) y h))

pub functions_stand : TermsStandOn → (s : ScopeState) → IsValidScope s → AllByRecursion (StandsInAll s) s.functions
functions_stand on s w =
    all_by_place (StandsInAll s) s.functions
    (λ n f h.
    let g = w.functions n f h in
    record {
      parameters = g.parameters.sorts;
      result = (w.scope.functions n f h).result;
      body = on (over (before s n) f.parameters Refused) [] f.body f.result s g.body (before_grows s w n);
    })

-- NAMES OF SORTS

bool_absent : (names : List (List ℕ)) → AllByRecursion (λ (name : List ℕ). is_fixed_sort name ≡ false) names → Absent names (codes "Bool")
bool_absent [] a = refl
bool_absent (name ∷ names) a =
    or_both (bytes_eq (codes "Bool") name) (list_any (bytes_eq (codes "Bool")) names) (other_way name (codes "Bool") (or_parts (bytes_eq name (codes "Bool")) (bytes_eq name (codes "BitVec")) a.0).0)
    (bool_absent names a.1)

pub has_sort_names : (s : ScopeState) → IsValidScope s → HasSortNames s
has_sort_names s w = record {
  fresh = (fresh_split [] (enumeration_names s) (sort_names s) w.sorts.differ).0;
  apart = not_among (enumeration_names s) (codes "Bool") (bool_absent (enumeration_names s) (all_parts (λ (name : List ℕ). is_fixed_sort name ≡ false) (enumeration_names s) (sort_names s) w.sorts.free).0);
}
