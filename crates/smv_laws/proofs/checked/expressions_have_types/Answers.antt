use Rattle.smv_laws.proofs.SafeExpressions.{expressions_have_types_law}
use Rattle.smv_laws.proofs.checked.expressions_have_types.Goals as goal

pub returns : goal.returns
returns c = expressions_have_types_law
