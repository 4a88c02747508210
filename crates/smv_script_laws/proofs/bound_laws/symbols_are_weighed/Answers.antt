use Rattle.smv_script_laws.proofs.SymbolCounts.{symbols_by_weight}
use Rattle.smv_script_laws.proofs.bound_laws.symbols_are_weighed.Goals as goal

pub returns : goal.returns
returns c = symbols_by_weight
