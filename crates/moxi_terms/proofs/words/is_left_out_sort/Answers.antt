use Rattle.moxi_terms.specs.Words.{left_out_sorts}
use Rattle.moxi_terms.proofs.words.is_left_out_sort.Goals as goal

pub returns : goal.returns
unfolding left_out_sorts
returns c = c.is_one_of.ensures
