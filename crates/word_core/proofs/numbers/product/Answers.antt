use Rattle.std.proofs.Common.{◌*◌, ◌∙◌}
use Rattle.word_core.proofs.Masks.{again}
use Rattle.word_core.proofs.numbers.product.Goals as goal

pub returns : goal.returns
returns c = c.reduced.ensures.value ∙ again c.args.width (c.args.a * c.args.b) c.requires.high
