use Rattle.std.proofs.Common.{◌≡◌, ℕ, List, map, take}
use Rattle.smv_instances.specs.NameMap.{known_at, kept}
use Rattle.smv_instances.specs.View.{instance_plain}
use Rattle.smv_instances.proofs.known_names.known_in_all.Given as goal

abbrev pub invariant-loop-i : goal.invariant-loop-i
invariant-loop-i l = (j : ℕ) (x : List ℕ) → known_at l.known j x ≡ kept (map instance_plain (take l.i l.table)) j x
