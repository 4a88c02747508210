use Rattle.smv_laws.proofs.Settling.{names_settle_law}
use Rattle.smv_laws.proofs.settled.names_settle.Goals as goal

pub returns : goal.returns
returns c = names_settle_law
