use Rattle.std.proofs.Common.{◌≡◌, ◌++◌}
use Rattle.std.specs.Slice.Iter.{iter_rest}
use Rattle.moxi_term_reading.specs.Answer.{locals_of}
use Rattle.moxi_term_reading.proofs.read.by_name.Given as goal

abbrev pub invariant-loop-variable : goal.invariant-loop-variable
invariant-loop-variable l = l.locals ++ locals_of (iter_rest l.variable-iterator) ≡ locals_of l.fn.variables
