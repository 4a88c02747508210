use Rattle.std.proofs.Common.{drop, map}
use Rattle.smv_instances.specs.View.{instance_plain}
use Rattle.smv_model_types.proofs.Instances.{Passes}
use Rattle.smv_model_types.proofs.types.types_checked.Given as goal

abbrev pub invariant-loop-i : goal.invariant-loop-i
invariant-loop-i l = Passes (map instance_plain l.table) l.i (map instance_plain (drop l.i l.part-items)) l.built
