use Rattle.moxi_terms.specs.Words.{indexed_operators}
use Rattle.moxi_terms.proofs.words.is_indexed.Goals as goal

pub returns : goal.returns
unfolding indexed_operators
returns c = c.is_one_of.ensures
