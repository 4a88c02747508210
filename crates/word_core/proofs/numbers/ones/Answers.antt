use Rattle.word_core.proofs.Masks.{ones_are}
use Rattle.word_core.proofs.numbers.ones.Goals as goal

pub returns : goal.returns
returns c = ones_are c.args.width c.requires.high
