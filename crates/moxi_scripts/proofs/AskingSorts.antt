-- The sort of a term is computed from it. So where it is known that a term has a sort, without how, it can be shown.
use Rattle.std.proofs.Common.{◌≡◌, ℕ, ◌<◌, ◌≤◌, nat_le, nat_lt, Bool, true, false, eqb, Option, None, Some, Result, Ok, Err, List, [], ◌∷◌, ◌++◌, length, refl, sym, ap, ◌∙◌, subst, arith}
use Rattle.std.specs.Prelude.{slice_get, slice_index_or, ◌^◌}
use Rattle.std.proofs.Math.Bool.{Bool-set}
use Rattle.std.proofs.Math.Logic.{∥∥₁_elim, ∥∥₁_map}
use Rattle.std.proofs.lemmas.Bool.Decides.{nat_tests}
use Rattle.std.proofs.lemmas.Option.{none-some, same_Some}
use Rattle.word_core.specs.declared.word.TheConstants.{WIDEST}
use Rattle.text_core.specs.declared.place.Kind.{Kind}
use Rattle.moxi_terms.specs.declared.data.Sort.{Sort}
use Rattle.moxi_terms.specs.declared.data.Sort.TheVariants.{Truth, Bits, Choice}
use Rattle.moxi_terms.specs.declared.data.Datum.{Datum}
use Rattle.moxi_terms.specs.declared.data.Datum.TheVariants as datum
use Rattle.moxi_terms.specs.declared.term.Enumeration.{Enumeration}
use Rattle.moxi_terms.specs.Sorted.{HasSort, HaveSorts}
use Rattle.moxi_terms.specs.Sorts.{IsConstant, IsOf, op_sort, same_sort}
use Rattle.moxi_terms.specs.Tree.{Tree, constant, variable, bound, apply, binding, call, Trees, no_trees, tree, PlainFunction, sorts_of}
use Rattle.moxi_scripts.proofs.FunctionLaws.{one_sort}
use Rattle.moxi_scripts.specs.laws.WholeParts.{index_get}

-- WHAT IS TRUE WITHOUT ITS CAUSE, AND CAN BE TESTED

-- a test that holds
held : (A : Type 0) (b : Bool) → (A → b ≡ true) → ∥ A ∥₁ → b ≡ true
held A b f h = ∥∥₁_elim h (Bool-set b true) f

held_not : (A : Type 0) → (A → ⊥) → ∥ A ∥₁ → ⊥
held_not A f h = let e : false ≡ true = held A false (λ a. absurd (f a)) h in cc

nat_held : (a b : ℕ) → ∥ a ≡ b ∥₁ → a ≡ b
nat_held a b h = let e : eqb a b ≡ true = held (a ≡ b) (eqb a b) (λ e. grind (arith, nat_tests)) h in grind (arith, nat_tests)

le_held : (a b : ℕ) → ∥ a ≤ b ∥₁ → a ≤ b
le_held a b h = let e : nat_le a b ≡ true = held (a ≤ b) (nat_le a b) (λ l. grind (arith, nat_tests)) h in grind (arith, nat_tests)

pub lt_held : (a b : ℕ) → ∥ a < b ∥₁ → a < b
lt_held a b h = let e : nat_lt a b ≡ true = held (a < b) (nat_lt a b) (λ l. grind (arith, nat_tests)) h in grind (arith, nat_tests)

same_as_itself : (s : Sort) → same_sort s s ≡ true
same_as_itself Truth = refl
same_as_itself (Bits w) = grind (arith, nat_tests)
same_as_itself (Choice n) = grind (arith, nat_tests)

sort_held : (s t : Sort) → ∥ s ≡ t ∥₁ → s ≡ t
sort_held s t h = one_sort s t (held (s ≡ t) (same_sort s t) (λ e. subst (λ u. same_sort s u ≡ true) e (same_as_itself s)) h)

get_held : (o : Option Sort) (s : Sort) → ∥ o ≡ Some s ∥₁ → o ≡ Some s
get_held None s h = absurd (held_not (None ≡ Some s) (none-some s) h)
get_held (Some t) s h = ap Some (sort_held t s (∥∥₁_map h (same_Some t s)))

same_ok : (s t : Sort) → (let r : Result Sort Kind = Ok s in r) ≡ Ok t → s ≡ t
same_ok s t h = cc

ok_held : (r : Result Sort Kind) (s : Sort) → ∥ r ≡ Ok s ∥₁ → r ≡ Ok s
ok_held (Ok t) s h = ap Ok (sort_held t s (∥∥₁_map h (same_ok t s)))
ok_held (Err n) s h = absurd (held_not ((let r : Result Sort Kind = Err n in r) ≡ Ok s) (λ e. cc) h)

-- VALUES

constant_held : (es : List Enumeration) (n i : ℕ) → ∥ IsConstant es n i ∥₁ → IsConstant es n i
constant_held es n i h = by_place (slice_get es n) refl
  where
    by_place : (o : Option Enumeration) → slice_get es n ≡ o → IsConstant es n i
    by_place None e = absurd (held_not (IsConstant es n i) (λ c. none-some c.enumeration (sym e ∙ c.there)) h)
    by_place (Some x) e = record {
      enumeration = x;
      there = e;
      within = lt_held i (length x.constants) (∥∥₁_map h (λ (c : IsConstant es n i). subst (λ (y : Enumeration). i < length y.constants) (same_Some c.enumeration x (sym c.there ∙ e)) c.within));
    }

of_held : (es : List Enumeration) (s : Sort) (d : Datum) → ∥ IsOf es s d ∥₁ → IsOf es s d
of_held es Truth (datum.Truth b) h = tt
of_held es Truth (datum.Bits v) h = held_not ⊥ (λ x. x) h
of_held es Truth (datum.Constant m i) h = held_not ⊥ (λ x. x) h
of_held es (Bits w) (datum.Truth b) h = held_not ⊥ (λ x. x) h
of_held es (Bits w) (datum.Bits v) h =
    (nat_held v.width w (∥∥₁_map h (λ p. p.0)), (le_held 1 v.width (∥∥₁_map h (λ p. p.1.0)), le_held v.width WIDEST (∥∥₁_map h (λ p. p.1.1)), lt_held v.bits (2 ^ v.width) (∥∥₁_map h (λ p. p.1.2))))
of_held es (Bits w) (datum.Constant m i) h = held_not ⊥ (λ x. x) h
of_held es (Choice n) (datum.Truth b) h = held_not ⊥ (λ x. x) h
of_held es (Choice n) (datum.Bits v) h = held_not ⊥ (λ x. x) h
of_held es (Choice n) (datum.Constant m i) h = (nat_held m n (∥∥₁_map h (λ p. p.0)), constant_held es n i (∥∥₁_map h (λ p. p.1)))

-- THE SORT OF A TERM

abbrev value_sort : Datum → Sort
value_sort (datum.Truth b) = Truth
value_sort (datum.Bits v) = Bits v.width
value_sort (datum.Constant n i) = Choice n

abbrev ok_sort : Result Sort Kind → Sort
ok_sort (Ok s) = s
ok_sort (Err n) = Truth

abbrev result_at : Option PlainFunction → Sort
result_at (Some f) = f.result
result_at None = Truth

module _ (fs : List PlainFunction) (vars : List Sort) where
  abbrev mutual
    pub sort_in : List Sort → Tree → Sort
    sort_in bounds (constant d) = value_sort d
    sort_in bounds (variable v primed) = slice_index_or vars v Truth
    sort_in bounds (bound i) = slice_index_or bounds i Truth
    sort_in bounds (apply o ts) = ok_sort (op_sort o (sorts_in bounds ts))
    sort_in bounds (binding names ts t) = sort_in (bounds ++ sorts_in bounds ts) t
    sort_in bounds (call n ts) = result_at (slice_get fs n)

    pub sorts_in : List Sort → Trees → List Sort
    sorts_in bounds no_trees = []
    sorts_in bounds (tree t ts) = sort_in bounds t ∷ sorts_in bounds ts

value_is : (es : List Enumeration) (s : Sort) (d : Datum) → IsOf es s d → value_sort d ≡ s
value_is es Truth (datum.Truth b) h = refl
value_is es Truth (datum.Bits v) h = absurd h
value_is es Truth (datum.Constant m i) h = absurd h
value_is es (Bits w) (datum.Truth b) h = absurd h
value_is es (Bits w) (datum.Bits v) h = ap Bits h.0
value_is es (Bits w) (datum.Constant m i) h = absurd h
value_is es (Choice n) (datum.Truth b) h = absurd h
value_is es (Choice n) (datum.Bits v) h = absurd h
value_is es (Choice n) (datum.Constant m i) h = ap Choice h.0

module _ (es : List Enumeration) (fs : List PlainFunction) (vars : List Sort) where
  mutual
    pub sort_is : (bounds : List Sort) (t : Tree) (s : Sort) → HasSort es fs vars bounds t s → sort_in fs vars bounds t ≡ s
    sort_is bounds (constant d) s h = value_is es s d h
    sort_is bounds (variable v primed) s h = index_get vars v s Truth h
    sort_is bounds (bound i) s h = index_get bounds i s Truth h
    sort_is bounds (apply o ts) s h = ap ok_sort (ap (op_sort o) (sorts_are bounds ts h.0 h.1) ∙ h.2)
    sort_is bounds (binding names ts t) s h = ap (λ ss. sort_in fs vars (bounds ++ ss) t) (sorts_are bounds ts h.0 h.2) ∙ sort_is (bounds ++ h.0) t s h.3
    sort_is bounds (call n ts) s h = ap result_at h.1 ∙ h.3

    pub sorts_are : (bounds : List Sort) (ts : Trees) (ss : List Sort) → HaveSorts es fs vars bounds ts ss → sorts_in fs vars bounds ts ≡ ss
    sorts_are bounds no_trees [] h = refl
    sorts_are bounds no_trees (s ∷ ss) h = absurd h
    sorts_are bounds (tree t ts) [] h = absurd h
    sorts_are bounds (tree t ts) (s ∷ ss) h = ap (λ u. u ∷ sorts_in fs vars bounds ts) (sort_is bounds t s h.0) ∙ ap (λ us. s ∷ us) (sorts_are bounds ts ss h.1)

  -- the terms have the sorts that are computed
  abbrev AreComputed : List Sort → Trees → Type 0
  AreComputed bounds ts = HaveSorts es fs vars bounds ts (sorts_in fs vars bounds ts)

  computed : (bounds : List Sort) (ts : Trees) (ss : List Sort) → HaveSorts es fs vars bounds ts ss → AreComputed bounds ts
  computed bounds ts ss h = subst (HaveSorts es fs vars bounds ts) (sym (sorts_are bounds ts ss h)) h

  call_held : (bounds : List Sort) (n : ℕ) (ts : Trees) (s : Sort) → ((ss : List Sort) → ∥ HaveSorts es fs vars bounds ts ss ∥₁ → HaveSorts es fs vars bounds ts ss)
      → ∥ HasSort es fs vars bounds (call n ts) s ∥₁ → HasSort es fs vars bounds (call n ts) s
  call_held bounds n ts s each h = by_function (slice_get fs n) refl
    where
      by_function : (o : Option PlainFunction) → slice_get fs n ≡ o → HasSort es fs vars bounds (call n ts) s
      by_function None e = absurd (held_not (HasSort es fs vars bounds (call n ts) s) (λ p. none-some p.0 (sym e ∙ p.1)) h)
      by_function (Some f) e = (
        f,
        e,
        each (sorts_of f.parameters) (∥∥₁_map h (λ p. subst (λ (g : PlainFunction). HaveSorts es fs vars bounds ts (sorts_of g.parameters)) (same_Some p.0 f (sym p.1 ∙ e)) p.2)),
        sort_held f.result s (∥∥₁_map h (λ p. ap (λ (g : PlainFunction). g.result) (sym (same_Some p.0 f (sym p.1 ∙ e))) ∙ p.3)),
      )

  mutual
    pub sorted_held : (bounds : List Sort) (t : Tree) (s : Sort) → ∥ HasSort es fs vars bounds t s ∥₁ → HasSort es fs vars bounds t s
    sorted_held bounds (constant d) s h = of_held es s d h
    sorted_held bounds (variable v primed) s h = get_held (slice_get vars v) s h
    sorted_held bounds (bound i) s h = get_held (slice_get bounds i) s h
    sorted_held bounds (apply o ts) s h = (
      sorts_in fs vars bounds ts,
      all_held bounds ts (sorts_in fs vars bounds ts) (∥∥₁_map h (λ p. computed bounds ts p.0 p.1)),
      ok_held (op_sort o (sorts_in fs vars bounds ts)) s (∥∥₁_map h (λ p. ap (op_sort o) (sorts_are bounds ts p.0 p.1) ∙ p.2)),
    )
    sorted_held bounds (binding names ts t) s h = (
      sorts_in fs vars bounds ts,
      nat_held (length names) (length (sorts_in fs vars bounds ts)) (∥∥₁_map h (λ p. p.1 ∙ ap length (sym (sorts_are bounds ts p.0 p.2)))),
      all_held bounds ts (sorts_in fs vars bounds ts) (∥∥₁_map h (λ p. computed bounds ts p.0 p.2)),
      sorted_held (bounds ++ sorts_in fs vars bounds ts) t s (∥∥₁_map h (λ p. subst (λ ss. HasSort es fs vars (bounds ++ ss) t s) (sym (sorts_are bounds ts p.0 p.2)) p.3)),
    )
    sorted_held bounds (call n ts) s h = call_held bounds n ts s (λ ss g. all_held bounds ts ss g) h

    all_held : (bounds : List Sort) (ts : Trees) (ss : List Sort) → ∥ HaveSorts es fs vars bounds ts ss ∥₁ → HaveSorts es fs vars bounds ts ss
    all_held bounds no_trees [] h = tt
    all_held bounds no_trees (s ∷ ss) h = held_not ⊥ (λ x. x) h
    all_held bounds (tree t ts) [] h = held_not ⊥ (λ x. x) h
    all_held bounds (tree t ts) (s ∷ ss) h = (sorted_held bounds t s (∥∥₁_map h (λ p. p.0)), all_held bounds ts ss (∥∥₁_map h (λ p. p.1)))
