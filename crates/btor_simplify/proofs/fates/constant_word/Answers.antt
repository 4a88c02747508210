use Rattle.std.proofs.Common.{ap}
use Rattle.btor_tree.specs.Fits.{is_constant}
use Rattle.btor_tree.proofs.Widths.{one_lt}
use Rattle.btor_simplify.proofs.fates.constant_word.Goals as goal

pub word_of-requires : goal.word_of-requires
word_of-requires c = let h = c.requires (ap is_constant c.in-One.is) in (h.0, h.1, one_lt c.args.width h.0)
