use Rattle.std.proofs.Common.{◌≡◌, ◌++◌, drop, map}
use Rattle.smv_meaning.specs.Phases.{over_instances}
use Rattle.smv_instances.specs.View.{instance_plain}
use Rattle.smv_items.specs.FlatItems.{items_here, origins_of}
use Rattle.smv_items.specs.FlatOrigins.{origin_plain}
use Rattle.smv_items.proofs.origins.origins_in.Given as goal

abbrev pub invariant-loop-i : goal.invariant-loop-i
invariant-loop-i l =
    map origin_plain l.origins.items ++ over_instances items_here l.i (map instance_plain (drop l.i l.part-items))
    ≡ origins_of (map instance_plain l.table)
