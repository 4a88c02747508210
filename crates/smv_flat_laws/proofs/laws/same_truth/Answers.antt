use Rattle.smv_flat_laws.proofs.FlatLaw.{same_truth_law}
use Rattle.smv_flat_laws.proofs.laws.same_truth.Goals as goal

pub returns : goal.returns
returns c = same_truth_law
