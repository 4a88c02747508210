use Rattle.moxi_terms.specs.Words.{operators}
use Rattle.moxi_terms.proofs.words.operator_named.Goals as goal

pub returns : goal.returns
unfolding operators
returns c = c.look_up.ensures
