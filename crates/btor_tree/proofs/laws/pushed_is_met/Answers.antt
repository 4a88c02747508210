use Rattle.btor_tree.proofs.Equations.{pushed_met}
use Rattle.btor_tree.proofs.laws.pushed_is_met.Goals as goal

pub returns : goal.returns
returns c = pushed_met
