use Rattle.smv_accepted.proofs.ItemNames.{names_are_distinct_law}
use Rattle.smv_accepted.proofs.name_laws.names_are_distinct.Goals as goal

pub returns : goal.returns
returns c = names_are_distinct_law
