use Rattle.smv_laws.proofs.Ordered.{ordered_is_acyclic_law}
use Rattle.smv_laws.proofs.settled.ordered_is_acyclic.Goals as goal

pub returns : goal.returns
returns c = ordered_is_acyclic_law
