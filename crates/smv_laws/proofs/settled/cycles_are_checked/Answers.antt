use Rattle.smv_laws.proofs.Ranked.{cycles_are_checked_law}
use Rattle.smv_laws.proofs.settled.cycles_are_checked.Goals as goal

pub returns : goal.returns
returns c = cycles_are_checked_law
