use Rattle.std.proofs.Common.{arith}
use Rattle.btor_tree.proofs.Widths.{width_small}
use Rattle.btor_simplify.proofs.fates.constant_at.Goals as goal

pub constant_word-requires : goal.constant_word-requires
constant_word-requires c =
    λ t. let small = width_small c.args.nodes.now c.args.place c.requires.well_formed in (omega (arith, c.width_of.ensures, c.requires.worded), omega (arith, c.width_of.ensures, small))
