use Rattle.smv_script_laws.proofs.Weights.{sizes_by_weight}
use Rattle.smv_script_laws.proofs.bound_laws.sizes_are_weighed.Goals as goal

pub returns : goal.returns
returns c = sizes_by_weight
