use Rattle.smv_script_laws.proofs.WholeScripts.{scripts_are_valid_law}
use Rattle.smv_script_laws.proofs.whole_laws.scripts_are_valid.Goals as goal

pub returns : goal.returns
returns c = scripts_are_valid_law
