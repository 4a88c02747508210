use Rattle.smv_laws.proofs.Settling.{types_settle_law}
use Rattle.smv_laws.proofs.settled.types_settle.Goals as goal

pub returns : goal.returns
returns c = types_settle_law
