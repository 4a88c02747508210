use Rattle.smv_script_laws.proofs.Weights.{counts_by_weight}
use Rattle.smv_script_laws.proofs.bound_laws.counts_are_weighed.Goals as goal

pub returns : goal.returns
returns c = counts_by_weight
