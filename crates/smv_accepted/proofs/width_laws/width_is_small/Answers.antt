use Rattle.smv_accepted.proofs.Widths.{width_is_small_law}
use Rattle.smv_accepted.proofs.width_laws.width_is_small.Goals as goal

pub returns : goal.returns
returns c = width_is_small_law
