use Rattle.smv_laws.proofs.Settling.{values_are_one_law}
use Rattle.smv_laws.proofs.settled.values_are_one.Goals as goal

pub returns : goal.returns
returns c = values_are_one_law
