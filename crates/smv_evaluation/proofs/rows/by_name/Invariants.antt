use Rattle.std.proofs.Common.{◌≡◌, ◌≤◌, ℕ, List, drop, length}
use Rattle.smv_meaning.specs.Values.{given}
use Rattle.smv_meaning.specs.Instances.{dotted}
use Rattle.smv_evaluation.specs.Rows.{found_value, at_dotted}
use Rattle.smv_evaluation.proofs.rows.by_name.Given as goal

abbrev pub invariant-loop-k : goal.invariant-loop-k
invariant-loop-k l = record {
  within : l.k ≤ length l.state;
  has : (p : List ℕ) (x : List ℕ) → found_value (at_dotted l.names p x) ≡ given (drop l.k l.state) (dotted p x);
}

abbrev pub decreases-loop-k : goal.decreases-loop-k
decreases-loop-k l = l.k
