use Rattle.moxi_scripts.proofs.ScriptLaws.{one_script}
use Rattle.moxi_scripts.proofs.laws.one_script.Goals as goal

pub returns : goal.returns
returns c = one_script
