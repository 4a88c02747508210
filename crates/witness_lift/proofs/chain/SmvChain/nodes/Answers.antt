use Rattle.std.proofs.Common.{◌∙◌, ap}
use Rattle.smv_flatten.specs.FlatModel.{FlatModel}
use Rattle.witness_lift.specs.Lifting.{lines_in}
use Rattle.witness_lift.proofs.chain.SmvChain.nodes.Goals as goal

pub returns : goal.returns
returns c = c.self.invariant.lines ∙ ap (λ (f : FlatModel). lines_in f) c.self.view_is
