use Rattle.moxi_lower.proofs.Back.{lowered_are_lifted_law}
use Rattle.moxi_lower.proofs.laws.lowered_are_lifted.Goals as goal

pub returns : goal.returns
returns c = lowered_are_lifted_law
