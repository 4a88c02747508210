use Rattle.smv_accepted.proofs.Symbols.{symbols_are_distinct_law}
use Rattle.smv_accepted.proofs.name_laws.symbols_are_distinct.Goals as goal

pub returns : goal.returns
returns c = symbols_are_distinct_law
