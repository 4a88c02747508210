use Rattle.std.proofs.Common.{◌∙◌, ap}
use Rattle.smv_flatten.specs.FlatModel.{FlatModel}
use Rattle.witness_lift.specs.Lifting.{system_in}
use Rattle.witness_lift.proofs.chain.SmvChain.variables.Goals as goal

pub returns : goal.returns
returns c = c.self.invariant.variables ∙ ap (λ (f : FlatModel). (system_in f).variables) c.self.view_is
