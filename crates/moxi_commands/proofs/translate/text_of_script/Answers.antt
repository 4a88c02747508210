use Rattle.moxi_scripts.specs.ScriptView.{plain_script}
use Rattle.moxi_commands.proofs.Translated.{text_is}
use Rattle.moxi_commands.proofs.translate.text_of_script.Goals as goal

pub returns-clause-text : goal.returns-clause-text
returns-clause-text c = text_is (plain_script c.args.script.now) c.in_ok-system.system c.in_ok-text_of_system.field-0 c.in_ok-system.ensures.flat c.in_ok-text_of_system.ensures
