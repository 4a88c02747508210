use Rattle.smv_laws.proofs.StandingBefore.{types_hang_on_paths_law}
use Rattle.smv_laws.proofs.orders.types_hang_on_paths.Goals as goal

pub returns : goal.returns
returns c = types_hang_on_paths_law
