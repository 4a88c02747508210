use Rattle.smv_laws.proofs.TypeLaws.{values_lie_law}
use Rattle.smv_laws.proofs.typed.values_lie.Goals as goal

pub returns : goal.returns
returns c = values_lie_law
