use Rattle.std.proofs.Common.{◌≡◌, ◌≤◌, ◌==◌, if◌then◌else◌, ℕ, List, drop, map, length}
use Rattle.smv_text.specs.View.{plain_element}
use Rattle.smv_meaning.specs.Names.{among_elements}
use Rattle.smv_instances.specs.NameMap.{known_at}
use Rattle.smv_instances.proofs.known_names.put_elements.Given as goal

abbrev pub invariant-loop-k : goal.invariant-loop-k
invariant-loop-k l = record {
  within : l.k ≤ length l.elements;
  has : (j : ℕ) (x : List ℕ) → known_at l.known j x ≡ (if l.i == j then among_elements l.i (map plain_element (drop l.k l.elements)) x else known_at l.fn.known j x);
}

abbrev pub decreases-loop-k : goal.decreases-loop-k
decreases-loop-k l = l.k
