use Rattle.std.proofs.Common.{refl}
use Rattle.btor_tree.proofs.Readings.{one_list}
use Rattle.btor_tree.proofs.laws.one_reading.Goals as goal

pub returns : goal.returns
returns c = λ text lines others a b. one_list a b refl
