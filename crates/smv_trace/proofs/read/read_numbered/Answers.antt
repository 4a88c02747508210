use Rattle.smv_trace.specs.Answer.{declarations_of}
use Rattle.smv_trace.proofs.Sound.{numbered_stated, numbered_within}
use Rattle.smv_trace.proofs.read.read_numbered.Goals as goal

pub returns-clause-stated : goal.returns-clause-stated
returns-clause-stated c = numbered_stated (declarations_of c.args.flat.now) c.args.text.now c.read_text.result c.read_text.ensures.exact

pub returns-clause-within : goal.returns-clause-within
returns-clause-within c = numbered_within (declarations_of c.args.flat.now) c.args.text.now c.read_text.result c.read_text.ensures.exact
