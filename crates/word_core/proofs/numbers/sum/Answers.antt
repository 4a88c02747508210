use Rattle.std.proofs.Common.{◌+◌, ◌∙◌}
use Rattle.word_core.proofs.Masks.{again}
use Rattle.word_core.proofs.numbers.sum.Goals as goal

pub returns-clause-value : goal.returns-clause-value
returns-clause-value c = c.reduced.ensures.value ∙ again c.args.width (c.args.a + c.args.b) c.requires.high
