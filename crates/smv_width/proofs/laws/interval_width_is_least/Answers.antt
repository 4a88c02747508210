use Rattle.smv_width.proofs.WidthLaw.{interval_width_is_least}
use Rattle.smv_width.proofs.laws.interval_width_is_least.Goals as goal

pub returns : goal.returns
returns c = interval_width_is_least
