use Rattle.std.proofs.Common.{subst}
use Rattle.smv_flatten.specs.FlatModel.{FlatModel}
use Rattle.moxi_layout.specs.LayoutLaws.{IsLaidOut}
use Rattle.witness_lift.specs.Lifting.{lines_in, system_in}
use Rattle.witness_lift.proofs.Lifts.{laid_of}
use Rattle.witness_lift.proofs.chain.SmvChain.is_laid_out.Goals as goal

pub returns : goal.returns
returns c = subst (λ (f : FlatModel). ∥ IsLaidOut (system_in f) (lines_in f) ∥₁) c.self.view_is (laid_of _ c.model_lines_are_laid_out.ensures c.is_of_model.ensures)
