use Rattle.smv_laws.proofs.StandingBefore.{order_is_complete_law}
use Rattle.smv_laws.proofs.orders.order_is_complete.Goals as goal

pub returns : goal.returns
returns c = order_is_complete_law
