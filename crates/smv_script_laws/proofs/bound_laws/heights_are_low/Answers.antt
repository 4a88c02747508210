use Rattle.smv_script_laws.proofs.Lows.{heights_are_low}
use Rattle.smv_script_laws.proofs.bound_laws.heights_are_low.Goals as goal

pub returns : goal.returns
returns c = heights_are_low
