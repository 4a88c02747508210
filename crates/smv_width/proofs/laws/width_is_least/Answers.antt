use Rattle.smv_width.proofs.WidthLaw.{width_is_least}
use Rattle.smv_width.proofs.laws.width_is_least.Goals as goal

pub returns : goal.returns
returns c = width_is_least
