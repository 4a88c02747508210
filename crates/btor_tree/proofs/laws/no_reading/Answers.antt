use Rattle.std.proofs.Common.{refl}
use Rattle.btor_tree.proofs.Readings.{no_list}
use Rattle.btor_tree.proofs.laws.no_reading.Goals as goal

pub returns : goal.returns
returns c = λ text lines fault at a b. no_list a b refl
