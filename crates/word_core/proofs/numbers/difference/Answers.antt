use Rattle.std.proofs.Common.{◌∙◌}
use Rattle.word_core.proofs.Masks.{less}
use Rattle.word_core.proofs.numbers.difference.Goals as goal

pub returns-clause-value : goal.returns-clause-value
returns-clause-value c = c.reduced.ensures.value ∙ less c.args.width c.args.a c.args.b c.requires.high c.requires.fits
