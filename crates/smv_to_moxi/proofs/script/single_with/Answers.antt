use Rattle.std.proofs.Common.{ap}
use Rattle.moxi_scripts.specs.Script.{plain_check, plain_system}
use Rattle.smv_to_moxi.specs.Assembling.{script_with}
use Rattle.smv_to_moxi.proofs.script.single_with.Goals as goal

pub returns : goal.returns
returns c = ap (λ o. script_with c.args.logic o (plain_system c.args.system) (plain_check c.args.check)) c.replace-scope.ensures.value
