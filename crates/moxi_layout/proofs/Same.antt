-- A trace that agrees with one that meets a query meets it too.
use Rattle.std.proofs.Common.{◌≡◌, ℕ, zero, suc, ◌+◌, ◌<◌, ◌≤◌, List, [], ◌∷◌, length, subst, arith}
use Rattle.std.specs.Prelude.{slice_index_or, Any}
use Rattle.std.specs.List.{AllByRecursion}
use Rattle.moxi_terms.specs.Sorts.{IsOf}
use Rattle.moxi_terms.specs.Tree.{sorts_of}
use Rattle.moxi_scripts.specs.declared.script.Query.{Query}
use Rattle.moxi_scripts.specs.Script.{PlainFormula, calls_in, formula_at}
use Rattle.moxi_scripts.specs.Behaviour.{Holds, Trace}
use Rattle.moxi_scripts.specs.Valid.{IsValidQuery}
use Rattle.moxi_flat.specs.FlatMeeting.{MeetsFlat, PartHolds, ReachesFlat}
use Rattle.moxi_flat.specs.FlatSorts.{AreFlatTruths, IsSortedFlat, PartIsSorted}
use Rattle.moxi_flat.specs.FlatSystem.{PlainFlatSystem, PlainPart}
use Rattle.moxi_layout.proofs.Lists.{all_with}
use Rattle.moxi_layout.proofs.Terms.{Agree, formula_sorted, holds_same}

element : {X : Type 0} (R : X → Type 0) (xs : List X) (i : ℕ) (x : X) → AllByRecursion R xs → i < length xs → slice_index_or xs i x ≡ x → R x
element R [] i x r l e = absurd (omega (arith, l))
element R (y ∷ xs) zero x r l e = subst R e r.0
element R (y ∷ xs) (suc i) x r l e = element R xs i x r.1 (omega (arith, l)) e

-- some element of a list has what all elements have
any_with : {X : Type 0} (R P Q : X → Type 0) (xs : List X) → ((x : X) → R x → P x → Q x) → AllByRecursion R xs → Any P xs → Any Q xs
any_with R P Q xs g r a = (a.0, a.1, a.2, a.3, g a.1 (element R xs a.0 a.1 r a.2 a.3) a.4)

module _ (f : PlainFlatSystem) (sorted : IsSortedFlat f) (k : ℕ) (a b : Trace) (agree : (j : ℕ) → j ≤ k → Agree (sorts_of f.variables) (a j) (b j)) where
  formula_same : (fs : List PlainFormula) → AreFlatTruths f fs → (j i : ℕ) → j ≤ k → i < length fs → Holds (calls_in f.scope) (a j) (a j) (formula_at fs i) → Holds (calls_in f.scope) (b j) (b j) (formula_at fs i)
  formula_same fs t j i l h g = holds_same f (a j) (b j) (a j) (b j) (formula_at fs i) (agree j l) (agree j l) (formula_sorted f fs i t h) g

  part_same : (p : PlainPart) → PartIsSorted f p → PartHolds (calls_in f.scope) (k + 1) a p → PartHolds (calls_in f.scope) (k + 1) b p
  part_same p s h =
      let z : 0 ≤ k = omega arith in
      record {
        init = holds_same f (a 0) (b 0) (a 0) (b 0) p.init (agree 0 z) (agree 0 z) s.init h.init;
        trans = λ j l.
            let m : j ≤ k = omega (arith, l) in
            let n : j + 1 ≤ k = omega (arith, l) in
            holds_same f (a j) (b j) (a (j + 1)) (b (j + 1)) p.trans (agree j m) (agree (j + 1) n) s.trans (h.trans j l);
        inv = λ j l. let m : j ≤ k = omega (arith, l) in holds_same f (a j) (b j) (a j) (b j) p.inv (agree j m) (agree j m) s.inv (h.inv j l);
      }

  pub meets_same : (q : Query) → IsValidQuery (length f.assumptions) (length f.currents) (length f.reachables) q → MeetsFlat f q k a → MeetsFlat f q k b
  meets_same q w m =
      let z : 0 ≤ k = omega arith in
      record {
        behaves = record {
          suits = λ j l. record { each = λ v s h. subst (IsOf f.scope.enumerations s) ((agree j (omega (arith, l))).each v s h) ((m.behaves.suits j l).each v s h) };
          parts = all_with (PartIsSorted f) (PartHolds (calls_in f.scope) (k + 1) a) (PartHolds (calls_in f.scope) (k + 1) b) f.parts part_same sorted.parts m.behaves.parts;
        };
        assumptions = λ j l. all_with (λ i. i < length f.assumptions) _ _ q.assumptions (λ i h g. formula_same f.assumptions sorted.assumptions j i l h g) w.assumptions_there (m.assumptions j l);
        currents = all_with (λ i. i < length f.currents) _ _ q.currents (λ i h g. formula_same f.currents sorted.currents 0 i z h g) w.currents_there m.currents;
        reached = all_with (λ i. i < length f.reachables) (λ r. (j : ℕ) × (j ≤ k) × ReachesFlat f a j r) (λ r. (j : ℕ) × (j ≤ k) × ReachesFlat f b j r) q.reachables
            (λ i h g. (g.0, g.1, formula_same f.reachables sorted.reachables g.0 i g.1 h g.2)) w.reachables_there m.reached;
        reached_last = any_with (λ i. i < length f.reachables) (ReachesFlat f a k) (ReachesFlat f b k) q.reachables
            (λ i h g. formula_same f.reachables sorted.reachables k i (omega arith) h g) w.reachables_there m.reached_last;
      }
