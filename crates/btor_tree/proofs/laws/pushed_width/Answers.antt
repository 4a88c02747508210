use Rattle.btor_tree.proofs.Equations.{pushed_wide}
use Rattle.btor_tree.proofs.laws.pushed_width.Goals as goal

pub returns : goal.returns
returns c = pushed_wide
