use Rattle.btor_tree.proofs.Grows.{meets_front}
use Rattle.btor_tree.proofs.laws.fewer_are_met.Goals as goal

pub returns : goal.returns
returns c = meets_front
