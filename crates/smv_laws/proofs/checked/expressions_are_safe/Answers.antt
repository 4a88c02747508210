use Rattle.smv_laws.proofs.SafeExpressions.{expressions_are_safe_law}
use Rattle.smv_laws.proofs.checked.expressions_are_safe.Goals as goal

pub returns : goal.returns
returns c = expressions_are_safe_law
