use Rattle.smv_laws.proofs.SafeExpressions.{names_have_types_law}
use Rattle.smv_laws.proofs.checked.names_have_types.Goals as goal

pub returns : goal.returns
returns c = names_have_types_law
