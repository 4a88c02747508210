use Rattle.std.proofs.Common.{refl}
use Rattle.moxi_scripts.specs.ScriptView.{plain_script}
use Rattle.moxi_instantiate.proofs.Named.{variables_are}
use Rattle.moxi_instantiate.proofs.refusals.flat_variables.Goals as goal

pub returns : goal.returns
returns c = variables_are (plain_script c.args.script.now) c.in_ok-all.all c.add_locals.new.all _ c.in_ok-all.ensures refl c.in_ok-add_locals.ensures
