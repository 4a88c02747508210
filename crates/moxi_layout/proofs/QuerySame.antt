-- What a query says of values depends on the system's variables alone.
use Rattle.std.proofs.Common.{◌≡◌, ℕ, ◌<◌, Bool, not, ◌&&◌, ◌||◌, cond, List, [], ◌∷◌, ◌++◌, length, refl, ap, ◌∙◌}
use Rattle.std.specs.List.{AllByRecursion, list_all, list_any}
use Rattle.moxi_terms.specs.Operators.{truth_of}
use Rattle.moxi_terms.specs.Tree.{sorts_of}
use Rattle.moxi_terms.specs.Value.{Values}
use Rattle.moxi_scripts.specs.declared.script.Query.{Query}
use Rattle.moxi_scripts.specs.Script.{PlainFormula, calls_in, formula_at}
use Rattle.moxi_scripts.specs.Valid.{IsValidQuery}
use Rattle.moxi_flat.specs.FlatSorts.{AreFlatTruths, IsSortedFlat}
use Rattle.moxi_flat.specs.FlatSystem.{PlainFlatSystem}
use Rattle.moxi_lines.specs.Lines.{has_conditions}
use Rattle.moxi_lines.specs.Constraints.{is_true}
use Rattle.moxi_layout.specs.Skeleton.{has_several}
use Rattle.moxi_layout.specs.Layout.{held_before, held_now, is_met, is_reached, latch_nexts, reached_before, reached_now, reached_upto}
use Rattle.moxi_layout.proofs.Lists.{all_weaken}
use Rattle.moxi_layout.proofs.Terms.{Agree, formula_sorted, same_value}

all_same : {X : Type 0} (p q : X → Bool) (xs : List X) → AllByRecursion (λ x. p x ≡ q x) xs → list_all p xs ≡ list_all q xs
all_same p q [] a = refl
all_same p q (x ∷ xs) a = ap (λ b. b && list_all p xs) a.0 ∙ ap (λ b. q x && b) (all_same p q xs a.1)

any_same : {X : Type 0} (p q : X → Bool) (xs : List X) → AllByRecursion (λ x. p x ≡ q x) xs → list_any p xs ≡ list_any q xs
any_same p q [] a = refl
any_same p q (x ∷ xs) a = ap (λ b. b || list_any p xs) a.0 ∙ ap (λ b. q x || b) (any_same p q xs a.1)

module _ (f : PlainFlatSystem) (sorted : IsSortedFlat f) (a b : Values) (agree : Agree (sorts_of f.variables) a b) where
  test_same : (fs : List PlainFormula) → AreFlatTruths f fs → (i : ℕ) → i < length fs → is_true f.scope a a (formula_at fs i) ≡ is_true f.scope b b (formula_at fs i)
  test_same fs t i l =
      ap truth_of (same_value f.scope.enumerations f.scope.functions (sorts_of f.variables) (calls_in f.scope) a b a b agree agree [] [] (formula_at fs i) _ (formula_sorted f fs i t l))

  upto_same : (rs : List ℕ) (ls : List Bool) → AllByRecursion (λ r. is_reached f a r ≡ is_reached f b r) rs → reached_upto f a rs ls ≡ reached_upto f b rs ls
  upto_same [] ls e = refl
  upto_same (r ∷ rs) [] e = ap (λ x. x ∷ reached_upto f a rs []) e.0 ∙ ap (λ xs. is_reached f b r ∷ xs) (upto_same rs [] e.1)
  upto_same (r ∷ rs) (l ∷ ls) e = ap (λ x. (l || x) ∷ reached_upto f a rs ls) e.0 ∙ ap (λ xs. (l || is_reached f b r) ∷ xs) (upto_same rs ls e.1)

  module _ (q : Query) (w : IsValidQuery (length f.assumptions) (length f.currents) (length f.reachables) q) (first : Bool) (ls : List Bool) where
    reached_each : AllByRecursion (λ r. is_reached f a r ≡ is_reached f b r) q.reachables
    reached_each = all_weaken (λ (i : ℕ). i < length f.reachables) (λ r. is_reached f a r ≡ is_reached f b r) q.reachables (λ i l. test_same f.reachables sorted.reachables i l) w.reachables_there

    held_same : held_now f first a q ls ≡ held_now f first b q ls
    held_same =
        let before = held_before q ls in
        let assumed : Values → Bool = λ v. list_all (λ i. is_true f.scope v v (formula_at f.assumptions i)) q.assumptions in
        let current : Values → Bool = λ v. list_all (λ i. not first || is_true f.scope v v (formula_at f.currents i)) q.currents in
        let x : assumed a ≡ assumed b = all_same _ _ q.assumptions (all_weaken (λ (i : ℕ). i < length f.assumptions) _ q.assumptions (λ i l. test_same f.assumptions sorted.assumptions i l) w.assumptions_there) in
        let y : current a ≡ current b = all_same _ _ q.currents (all_weaken (λ (i : ℕ). i < length f.currents) _ q.currents (λ i l. ap (λ c. not first || c) (test_same f.currents sorted.currents i l)) w.currents_there) in
        ap (λ c. before && (c && current a)) x ∙ ap (λ c. before && (assumed b && c)) y

    reached_same : reached_now f a q ls ≡ reached_now f b q ls
    reached_same = upto_same q.reachables (reached_before q ls) reached_each

    pub met_same : is_met f first a q ls ≡ is_met f first b q ls
    met_same =
        let h = held_now f first b q ls in
        ap (λ c. c && (list_all (λ x. x) (reached_now f a q ls) && list_any (is_reached f a) q.reachables)) held_same
        ∙ ap (λ c. h && (list_all (λ x. x) c && list_any (is_reached f a) q.reachables)) reached_same
        ∙ ap (λ c. h && (list_all (λ x. x) (reached_now f b q ls) && c)) (any_same (is_reached f a) (is_reached f b) q.reachables reached_each)

    pub nexts_same : latch_nexts f first a q ls ≡ latch_nexts f first b q ls
    nexts_same =
        let k = has_conditions q.assumptions q.currents in
        let s = has_several q.reachables in
        ap (λ c. cond k (c ∷ []) [] ++ cond s (reached_now f a q ls) []) held_same ∙ ap (λ c. cond k (held_now f first b q ls ∷ []) [] ++ cond s c []) reached_same
