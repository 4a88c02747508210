use Rattle.smv_accepted.proofs.Symbols.{symbols_differ_law}
use Rattle.smv_accepted.proofs.name_laws.symbols_differ.Goals as goal

pub returns : goal.returns
returns c = symbols_differ_law
