use Rattle.btor_tree.proofs.Alike.{pushed_says}
use Rattle.btor_tree.proofs.laws.says_what_was_pushed.Goals as goal

pub returns : goal.returns
returns c = pushed_says
