use Rattle.smv_laws.proofs.ValueLaws.{paths_lie_law}
use Rattle.smv_laws.proofs.values.paths_lie.Goals as goal

pub returns : goal.returns
returns c = paths_lie_law
