use Rattle.smv_laws.proofs.StandingBefore.{references_come_before_law}
use Rattle.smv_laws.proofs.orders.references_come_before.Goals as goal

pub returns : goal.returns
returns c = references_come_before_law
