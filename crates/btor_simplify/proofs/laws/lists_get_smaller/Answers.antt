use Rattle.btor_simplify.proofs.Keeping.{lists_get_smaller}
use Rattle.btor_simplify.proofs.laws.lists_get_smaller.Goals as goal

pub returns : goal.returns
returns c = lists_get_smaller
