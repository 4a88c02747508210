use Rattle.smv_flat_laws.proofs.FlatWithin.{numbers_lie_law}
use Rattle.smv_flat_laws.proofs.laws.numbers_lie.Goals as goal

pub returns : goal.returns
returns c = numbers_lie_law
