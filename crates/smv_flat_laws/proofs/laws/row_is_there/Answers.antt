use Rattle.smv_flat_laws.proofs.FlatRows.{row_is_there_law}
use Rattle.smv_flat_laws.proofs.laws.row_is_there.Goals as goal

pub returns : goal.returns
returns c = row_is_there_law
