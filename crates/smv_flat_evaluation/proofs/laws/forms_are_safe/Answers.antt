use Rattle.smv_flat_evaluation.proofs.SafeForms.{forms_are_safe_law}
use Rattle.smv_flat_evaluation.proofs.laws.forms_are_safe.Goals as goal

pub returns : goal.returns
returns c = forms_are_safe_law
