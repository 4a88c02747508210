use Rattle.smv_script_laws.proofs.Limits.{scripts_are_small}
use Rattle.smv_script_laws.proofs.bound_laws.scripts_are_small.Goals as goal

pub returns : goal.returns
returns c = scripts_are_small
