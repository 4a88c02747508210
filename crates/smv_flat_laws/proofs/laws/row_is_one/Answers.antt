use Rattle.smv_flat_laws.proofs.FlatRows.{row_is_one_law}
use Rattle.smv_flat_laws.proofs.laws.row_is_one.Goals as goal

pub returns : goal.returns
returns c = row_is_one_law
