use Rattle.std.proofs.Common.{◌≡◌, ◌++◌, drop, map}
use Rattle.smv_meaning.specs.Phases.{over_instances}
use Rattle.smv_meaning.specs.Bodies.{bodies_here, placed_bodies}
use Rattle.smv_instances.specs.View.{instance_plain}
use Rattle.smv_references.specs.View.{body_plain}
use Rattle.smv_references.proofs.bodies.bodies_in.Given as goal

abbrev pub invariant-loop-i : goal.invariant-loop-i
invariant-loop-i l =
    map body_plain l.bodies.items ++ over_instances bodies_here l.i (map instance_plain (drop l.i l.at-items))
    ≡ placed_bodies (map instance_plain l.table)
