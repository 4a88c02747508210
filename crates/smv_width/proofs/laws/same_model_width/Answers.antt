use Rattle.smv_width.proofs.ModelWidths.{same_model_width}
use Rattle.smv_width.proofs.laws.same_model_width.Goals as goal

pub returns : goal.returns
returns c = same_model_width
