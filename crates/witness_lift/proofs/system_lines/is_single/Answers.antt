use Rattle.witness_lift.proofs.Lifts.{single_of}
use Rattle.witness_lift.proofs.system_lines.is_single.Goals as goal

pub returns : goal.returns
returns c = single_of c.args.flat.now c.scripts_are_valid.ensures c.models_have_flat_systems.ensures c.is_of_model.ensures
