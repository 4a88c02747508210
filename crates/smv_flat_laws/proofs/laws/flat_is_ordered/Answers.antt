use Rattle.smv_flat_laws.proofs.ItemOrders.{flat_is_ordered_law}
use Rattle.smv_flat_laws.proofs.laws.flat_is_ordered.Goals as goal

pub returns : goal.returns
returns c = flat_is_ordered_law
