-- The flat system of a script can be judged where it is known, without how, that it is sorted.
use Rattle.std.proofs.Common.{ℕ, ◌<◌, List, [], ◌∷◌, length}
use Rattle.std.specs.List.{AllByRecursion}
use Rattle.std.proofs.Math.Logic.{∥∥₁_map}
use Rattle.moxi_terms.specs.declared.data.Sort.TheVariants.{Truth}
use Rattle.moxi_terms.specs.Sorted.{IsUnprimed}
use Rattle.moxi_terms.specs.Tree.{Tree, sorts_of}
use Rattle.moxi_scripts.specs.declared.script.Query.{Query}
use Rattle.moxi_scripts.specs.Script.{PlainFormula}
use Rattle.moxi_scripts.specs.Valid.{IsValidQuery}
use Rattle.moxi_scripts.proofs.AskingSorts.{lt_held, sorted_held}
use Rattle.moxi_flat.specs.FlatSorts.{AreFlatTruths, IsFlatTruth, IsSortedFlat, PartIsSorted}
use Rattle.moxi_flat.specs.FlatSystem.{PlainFlatSystem, PlainPart}
use Rattle.moxi_judge.specs.declared.parts.PartFormula.TheVariants.{Init, Trans, Inv}
use Rattle.moxi_judge.specs.FlatTests.{AreTruths, CanJudge, IsPartOf, IsQueryOf}

all_held : {A : Type 0} (Q P : A → Type 0) (W : Type 0) (xs : List A) → ∥ W ∥₁ → (W → AllByRecursion Q xs) → ((x : A) → ∥ Q x ∥₁ → P x) → AllByRecursion P xs
all_held Q P W [] w f g = tt
all_held Q P W (x ∷ xs) w f g = (g x (∥∥₁_map w (λ v. (f v).0)), all_held Q P W xs w (λ v. (f v).1) g)

below : (W : Type 0) (n : ℕ) (is : List ℕ) → ∥ W ∥₁ → (W → AllByRecursion (λ (i : ℕ). i < n) is) → AllByRecursion (λ (i : ℕ). i < n) is
below W n is w f = all_held (λ (i : ℕ). i < n) (λ (i : ℕ). i < n) W is w f (λ i. lt_held i n)

module _ (f : PlainFlatSystem) where
  truth_held : (t : Tree) → ∥ IsFlatTruth f t ∥₁ → IsFlatTruth f t
  truth_held t h = sorted_held f.scope.enumerations f.scope.functions (sorts_of f.variables) [] t Truth h

  part_held : (p : PlainPart) → ∥ PartIsSorted f p ∥₁ → IsPartOf f p
  part_held p h Init = truth_held p.init (∥∥₁_map h (λ (s : PartIsSorted f p). s.init))
  part_held p h Trans = truth_held p.trans (∥∥₁_map h (λ (s : PartIsSorted f p). s.trans))
  part_held p h Inv = truth_held p.inv (∥∥₁_map h (λ (s : PartIsSorted f p). s.inv))

  abbrev IsThere : Query → Type 0
  IsThere q = IsValidQuery (length f.assumptions) (length f.currents) (length f.reachables) q

  query_held : (q : Query) → ∥ IsThere q ∥₁ → IsQueryOf f q
  query_held q h = record {
    assumptions = below (IsThere q) (length f.assumptions) q.assumptions h (λ w. w.assumptions_there);
    currents = below (IsThere q) (length f.currents) q.currents h (λ w. w.currents_there);
    reachables = below (IsThere q) (length f.reachables) q.reachables h (λ w. w.reachables_there);
  }

  module _ (h : ∥ IsSortedFlat f ∥₁) where
    truths_held : (fs : List PlainFormula) → (IsSortedFlat f → AreFlatTruths f fs) → AreTruths f fs
    truths_held fs g =
        all_held (λ (x : PlainFormula). IsFlatTruth f x.term × IsUnprimed x.term) (λ (x : PlainFormula). IsFlatTruth f x.term) (IsSortedFlat f) fs h g
        (λ x k. truth_held x.term (∥∥₁_map k (λ p. p.0)))

    pub can_judge : CanJudge f
    can_judge = record {
      parts = all_held (PartIsSorted f) (IsPartOf f) (IsSortedFlat f) f.parts h (λ s. s.parts) part_held;
      assumptions = truths_held f.assumptions (λ s. s.assumptions);
      currents = truths_held f.currents (λ s. s.currents);
      reachables = truths_held f.reachables (λ s. s.reachables);
      queries = all_held IsThere (IsQueryOf f) (IsSortedFlat f) f.queries h (λ s. s.queries) query_held;
    }
