use Rattle.btor_tree.proofs.Alike.{pushed_quiet}
use Rattle.btor_tree.proofs.laws.grows_by_shared.Goals as goal

pub returns : goal.returns
returns c = pushed_quiet
