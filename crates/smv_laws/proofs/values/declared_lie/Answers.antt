use Rattle.smv_laws.proofs.ValueLaws.{declared_lie_law}
use Rattle.smv_laws.proofs.values.declared_lie.Goals as goal

pub returns : goal.returns
returns c = declared_lie_law
