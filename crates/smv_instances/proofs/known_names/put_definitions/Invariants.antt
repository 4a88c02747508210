use Rattle.std.proofs.Common.{◌≡◌, ◌≤◌, ◌==◌, if◌then◌else◌, ℕ, List, drop, map, length}
use Rattle.smv_text.specs.View.{plain_definition}
use Rattle.smv_meaning.specs.Names.{among_definitions}
use Rattle.smv_instances.specs.NameMap.{known_at}
use Rattle.smv_instances.proofs.known_names.put_definitions.Given as goal

abbrev pub invariant-loop-k : goal.invariant-loop-k
invariant-loop-k l = record {
  within : l.k ≤ length l.definitions;
  has : (j : ℕ) (x : List ℕ) → known_at l.known j x ≡ (if l.i == j then among_definitions l.i (map plain_definition (drop l.k l.definitions)) x (known_at l.fn.known j x) else known_at l.fn.known j x);
}

abbrev pub decreases-loop-k : goal.decreases-loop-k
decreases-loop-k l = l.k
