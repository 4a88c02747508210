use Rattle.std.proofs.Common.{refl}
use Rattle.btor_tree.proofs.Readings.{one_fault}
use Rattle.btor_tree.proofs.laws.one_fault.Goals as goal

pub returns : goal.returns
returns c = λ text fault other at to a b. one_fault a b refl refl
