use Rattle.moxi_terms.specs.Words.{left_out_operators}
use Rattle.moxi_terms.proofs.words.is_left_out.Goals as goal

pub returns : goal.returns
unfolding left_out_operators
returns c = c.is_one_of.ensures
