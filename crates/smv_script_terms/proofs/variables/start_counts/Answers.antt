use Rattle.std.proofs.Common.{arith}
use Rattle.smv_script_terms.proofs.variables.start_counts.Goals as goal

pub returns-clause-most : goal.returns-clause-most
returns-clause-most c = record { inputs = omega arith; outputs = omega arith; locals = omega arith }
