use Rattle.smv_models.proofs.Forms.{memory_ends}
use Rattle.smv_commands.proofs.translate.translate.Goals as goal

pub returns-in-Ok-clause-refused : goal.returns-in-Ok-clause-refused
returns-in-Ok-clause-refused c = memory_ends c.args.bytes.now 0 c.chain_text.result c.chain_text.ensures.stop
