use Rattle.smv_laws.proofs.ValueLaws.{expressions_lie_law}
use Rattle.smv_laws.proofs.values.expressions_lie.Goals as goal

pub returns : goal.returns
returns c = expressions_lie_law
