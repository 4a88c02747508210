use Rattle.smv_laws.proofs.Settling.{values_settle_law}
use Rattle.smv_laws.proofs.settled.values_settle.Goals as goal

pub returns : goal.returns
returns c = values_settle_law
