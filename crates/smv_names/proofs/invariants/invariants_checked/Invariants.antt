use Rattle.std.proofs.Common.{◌≡◌, ◌+◌, drop, map, length}
use Rattle.std.specs.Prelude.{flat_map}
use Rattle.smv_meaning.specs.Phases.{element_invariants, invariants_in, over_instances}
use Rattle.smv_instances.specs.View.{instance_plain}
use Rattle.smv_names.proofs.invariants.invariants_checked.Given as goal

abbrev pub invariant-loop-part : goal.invariant-loop-part
invariant-loop-part l =
    l.count + length (over_instances (λ i at. flat_map (element_invariants i) at.module.elements) l.part-index (map instance_plain (drop l.part-index l.part-items)))
    ≡ length (invariants_in (map instance_plain l.table))
