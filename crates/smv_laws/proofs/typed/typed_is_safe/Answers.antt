use Rattle.smv_laws.proofs.SafeLaws.{typed_is_safe_law}
use Rattle.smv_laws.proofs.typed.typed_is_safe.Goals as goal

pub returns : goal.returns
returns c = typed_is_safe_law
