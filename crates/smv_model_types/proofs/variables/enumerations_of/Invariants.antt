use Rattle.std.proofs.Common.{map}
use Rattle.smv_instances.specs.View.{instance_plain}
use Rattle.smv_model_types.specs.Entries.{AreEnumerations}
use Rattle.smv_model_types.proofs.variables.enumerations_of.Given as goal

abbrev pub invariant-loop-origin : goal.invariant-loop-origin
invariant-loop-origin l = AreEnumerations (map instance_plain l.table) l.enumerations
