use Rattle.moxi_scripts.proofs.ScriptKinds.{script_kinds}
use Rattle.moxi_scripts.proofs.laws.failures_have_kinds.Goals as goal

pub returns : goal.returns
returns c = script_kinds
