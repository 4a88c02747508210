-- What is known of a flat system without its cause.
use Rattle.std.proofs.Common.{◌≡◌, ℕ, suc, ◌+◌, ◌*◌, ◌<◌, ◌≤◌, true, List, [], ◌∷◌, length, refl, arith}
use Rattle.std.proofs.Math.Bool.{Bool-set}
use Rattle.std.proofs.Math.Logic.{∥∥₁_elim, ∥∥₁_map}
use Rattle.std.specs.List.{AllByRecursion}
use Rattle.word_core.specs.declared.word.TheConstants.{WIDEST}
use Rattle.btor_tree.specs.Fits.{greatest_id}
use Rattle.moxi_terms.specs.declared.data.Sort.{Sort}
use Rattle.moxi_terms.specs.declared.data.Sort.TheVariants.{Truth, Bits, Choice}
use Rattle.moxi_terms.specs.declared.term.Enumeration.{Enumeration}
use Rattle.moxi_terms.specs.Sorts.{IsSort}
use Rattle.moxi_terms.specs.Tree.{Tree, sorts_of}
use Rattle.moxi_scripts.specs.declared.script.Query.{Query}
use Rattle.moxi_scripts.specs.Script.{PlainFormula}
use Rattle.moxi_scripts.specs.QueryReading.{some_distinct}
use Rattle.moxi_scripts.proofs.AskingSorts.{lt_held, sorted_held}
use Rattle.moxi_flat.specs.declared.limits.TheConstants as limits
use Rattle.moxi_flat.specs.FlatSorts.{AreFlatTruths, IsSortedFlat, PartIsSorted}
use Rattle.moxi_flat.specs.FlatSystem.{PlainFlatSystem, PlainPart}
use Rattle.moxi_instantiate.specs.Instances as instances
use Rattle.moxi_layout.specs.Counts as counts
use Rattle.moxi_layout.proofs.Whole.{lines_are_counted_law, lines_stay_few_law}
use Rattle.moxi_lines.specs.Lines.{lines_of}
use Rattle.moxi_lines.specs.TermLaws.{HaveCodes}
use Rattle.moxi_to_btor.specs.Putting.{IsPartOver, IsTruthOver}
use Rattle.moxi_to_btor.specs.Queries.{AreTruthsOver, IsQueryOf}
use Rattle.moxi_to_btor.specs.Systems.{AreFew, IsKnown}

at_most : (a b : ℕ) → ∥ a ≤ b ∥₁ → a ≤ b
at_most a b h = let l : a < suc b = lt_held a (suc b) (∥∥₁_map h (λ e. let m : a < suc b = omega (arith, e) in m)) in omega (arith, l)

sort_known : (es : List Enumeration) (s : Sort) → ∥ IsSort es s ∥₁ → IsSort es s
sort_known es Truth h = tt
sort_known es (Bits w) h = (at_most 1 w (∥∥₁_map h (λ p. p.0)), at_most w WIDEST (∥∥₁_map h (λ p. p.1)))
sort_known es (Choice n) h = lt_held n (length es) h

all_known : {A : Type 0} (P Q : A → Type 0) (W : Type 0) (xs : List A) → ∥ W ∥₁ → (W → AllByRecursion P xs) → ((x : A) → ∥ P x ∥₁ → Q x) → AllByRecursion Q xs
all_known P Q W [] w f g = tt
all_known P Q W (x ∷ xs) w f g = (g x (∥∥₁_map w (λ v. (f v).0)), all_known P Q W xs w (λ v. (f v).1) g)

module _ (f : PlainFlatSystem) where
  truth_known : (t : Tree) → ∥ IsTruthOver f.scope f.variables t ∥₁ → IsTruthOver f.scope f.variables t
  truth_known t h = sorted_held f.scope.enumerations f.scope.functions (sorts_of f.variables) [] t Truth h

  part_known : (p : PlainPart) → ∥ PartIsSorted f p ∥₁ → IsPartOver f.scope f.variables p
  part_known p h = record { init = truth_known p.init (∥∥₁_map h (λ v. v.init)); trans = truth_known p.trans (∥∥₁_map h (λ v. v.trans)); inv = truth_known p.inv (∥∥₁_map h (λ v. v.inv)) }

  below_known : (n : ℕ) (W : Type 0) (is : List ℕ) → ∥ W ∥₁ → (W → AllByRecursion (λ (i : ℕ). i < n) is) → AllByRecursion (λ (i : ℕ). i < n) is
  below_known n W is w g = all_known (λ (i : ℕ). i < n) (λ (i : ℕ). i < n) W is w g (λ i. lt_held i n)

  query_known : (q : Query) → ∥ IsQueryOf f q ∥₁ → IsQueryOf f q
  query_known q h =
      record {
        assumptions_there = below_known (length f.assumptions) (IsQueryOf f q) q.assumptions h (λ v. v.assumptions_there);
        currents_there = below_known (length f.currents) (IsQueryOf f q) q.currents h (λ v. v.currents_there);
        reachables_there = below_known (length f.reachables) (IsQueryOf f q) q.reachables h (λ v. v.reachables_there);
        reachables_differ = ∥∥₁_elim h (Bool-set (some_distinct q.reachables) true) (λ v. v.reachables_differ);
      }

  same_size : counts.flat_size f ≡ instances.flat_size f
  same_size = refl

  pub system_known : ∥ IsSortedFlat f ∥₁ → instances.flat_size f ≤ limits.LARGEST → IsKnown f
  system_known h size =
      record {
        sorts = all_known (IsSort f.scope.enumerations) (IsSort f.scope.enumerations) (IsSortedFlat f) (sorts_of f.variables) h (λ v. v.variables) (sort_known f.scope.enumerations);
        parts = all_known (PartIsSorted f) (IsPartOver f.scope f.variables) (IsSortedFlat f) f.parts h (λ v. v.parts) part_known;
        assumptions = formulas_known f.assumptions (λ v. v.assumptions);
        currents = formulas_known f.currents (λ v. v.currents);
        reachables = formulas_known f.reachables (λ v. v.reachables);
        queries = all_known (IsQueryOf f) (IsQueryOf f) (IsSortedFlat f) f.queries h (λ v. v.queries) query_known;
        room = lt_held (length (lines_of f)) greatest_id (∥∥₁_map h (λ v. let l : length (lines_of f) < greatest_id = omega (arith, lines_stay_few_law f v, same_size, size) in l));
      }
    where
      formulas_known : (fs : List PlainFormula) → (IsSortedFlat f → AreFlatTruths f fs) → AreTruthsOver f fs
      formulas_known fs g = all_known _ (λ (x : PlainFormula). IsTruthOver f.scope f.variables x.term) (IsSortedFlat f) fs h g (λ x k. truth_known x.term (∥∥₁_map k (λ v. v.0)))

  pub few_known : ∥ IsSortedFlat f ∥₁ → IsKnown f → HaveCodes f.scope.enumerations → AreFew f (lines_of f)
  few_known h known codes names =
      at_most (length (lines_of f)) (2 * counts.flat_size f + 6 * (length f.variables + length f.queries) + 150)
      (∥∥₁_map h (λ sorted. lines_are_counted_law f codes sorted names known.room))
