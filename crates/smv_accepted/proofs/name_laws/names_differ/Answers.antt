use Rattle.smv_accepted.proofs.ItemNames.{names_differ_law}
use Rattle.smv_accepted.proofs.name_laws.names_differ.Goals as goal

pub returns : goal.returns
returns c = names_differ_law
