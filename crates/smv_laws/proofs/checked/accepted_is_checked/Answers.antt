use Rattle.smv_laws.proofs.SafeExpressions.{accepted_is_checked_law}
use Rattle.smv_laws.proofs.checked.accepted_is_checked.Goals as goal

pub returns : goal.returns
returns c = accepted_is_checked_law
