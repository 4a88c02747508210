use Rattle.std.proofs.Common.{◌≡◌, take, map}
use Rattle.smv_meaning.specs.Bodies.{references_of}
use Rattle.smv_instances.specs.View.{instance_plain}
use Rattle.smv_references.specs.View.{key_of}
use Rattle.smv_references.proofs.references.graph_of.Given as goal

abbrev pub invariant-loop-body : goal.invariant-loop-body
invariant-loop-body l = l.graph ≡ map (references_of (map instance_plain l.table)) (map key_of (take l.body-index l.bodies))
