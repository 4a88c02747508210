use Rattle.std.proofs.Common.{◌≡◌, ◌≤◌, ◌==◌, if◌then◌else◌, ℕ, List, drop, map, length}
use Rattle.smv_text.specs.View.{plain}
use Rattle.smv_meaning.specs.Names.{among_parameters}
use Rattle.smv_instances.specs.NameMap.{known_at}
use Rattle.smv_text.specs.Tree.{trees_of}
use Rattle.smv_instances.proofs.known_names.put_parameters.Given as goal

abbrev pub invariant-loop-k : goal.invariant-loop-k
invariant-loop-k l = record {
  within : l.k ≤ length l.parameters;
  within_actuals : l.k ≤ length l.actuals;
  has : (j : ℕ) (x : List ℕ) → known_at l.known j x ≡ (if l.i == j then among_parameters l.parent (drop l.k l.parameters) (trees_of (map plain (drop l.k l.actuals))) x (known_at l.fn.known j x) else known_at l.fn.known j x);
}

abbrev pub decreases-loop-k : goal.decreases-loop-k
decreases-loop-k l = l.k
