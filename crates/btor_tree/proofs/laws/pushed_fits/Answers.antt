use Rattle.btor_tree.proofs.Equations.{pushed_fit}
use Rattle.btor_tree.proofs.laws.pushed_fits.Goals as goal

pub returns : goal.returns
returns c = pushed_fit
