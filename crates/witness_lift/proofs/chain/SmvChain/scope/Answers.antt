use Rattle.std.proofs.Common.{◌∙◌, ap}
use Rattle.smv_flatten.specs.FlatModel.{FlatModel}
use Rattle.witness_lift.specs.Lifting.{system_in}
use Rattle.witness_lift.proofs.chain.SmvChain.scope.Goals as goal

pub returns : goal.returns
returns c = c.self.invariant.scope ∙ ap (λ (f : FlatModel). (system_in f).scope) c.self.view_is
