use Rattle.moxi_trace.proofs.Sound.{stated_from}
use Rattle.moxi_trace.proofs.read.read_response.Goals as goal

pub returns-clause-stated : goal.returns-clause-stated
returns-clause-stated c = stated_from c.args.declarations.now c.args.text.now c.read_text.result c.read_text.ensures
