use Rattle.std.proofs.Common.{◌≡◌, ◌≤◌, ◌==◌, if◌then◌else◌, ℕ, List, drop, map, length}
use Rattle.smv_text.specs.View.{plain_item}
use Rattle.smv_meaning.specs.Names.{among_items}
use Rattle.smv_instances.specs.NameMap.{known_at}
use Rattle.smv_instances.proofs.known_names.put_items.Given as goal

abbrev pub invariant-loop-k : goal.invariant-loop-k
invariant-loop-k l = record {
  within : l.k ≤ length l.items;
  has : (j : ℕ) (x : List ℕ) → known_at l.known j x ≡ (if l.i == j then among_items l.kind (map plain_item (drop l.k l.items)) x (known_at l.fn.known j x) else known_at l.fn.known j x);
}

abbrev pub decreases-loop-k : goal.decreases-loop-k
decreases-loop-k l = l.k
