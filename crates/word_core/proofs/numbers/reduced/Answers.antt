use Rattle.word_core.proofs.Masks.{masked}
use Rattle.word_core.proofs.numbers.reduced.Goals as goal

pub returns-clause-value : goal.returns-clause-value
returns-clause-value c = masked c.args.width c.args.n c.ones.result c.ones.ensures
