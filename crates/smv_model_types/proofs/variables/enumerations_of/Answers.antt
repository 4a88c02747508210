use Rattle.std.proofs.Common.{map}
use Rattle.smv_instances.specs.View.{instance_plain}
use Rattle.smv_model_types.proofs.Stored.{no_enumerations}
use Rattle.smv_model_types.proofs.variables.enumerations_of.Goals as goal

pub loop-origin-init : goal.loop-origin-init
loop-origin-init c = no_enumerations (map instance_plain c.args.table.now) c.in_ok-enumerations.enumerations c.in_ok-enumerations.ensures
