use Rattle.smv_commands.proofs.Given.{made_of_bytes}
use Rattle.smv_commands.proofs.translate.script_text.Goals as goal

pub returns-clause-text : goal.returns-clause-text
returns-clause-text c = made_of_bytes c.args.bytes.now c.in_ok-flat.flat c.in_ok-text_of.field-0 c.in_ok-flat.ensures.form c.in_ok-text_of.ensures
