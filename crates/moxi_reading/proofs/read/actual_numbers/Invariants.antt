use Rattle.std.proofs.Common.{◌≡◌, ◌++◌}
use Rattle.std.specs.Slice.Iter.{iter_rest}
use Rattle.moxi_scripts.specs.Spelling.{actual_numbers}
use Rattle.moxi_reading.proofs.read.actual_numbers.Given as goal

abbrev pub invariant-loop-actual : goal.invariant-loop-actual
invariant-loop-actual l = l.numbers ++ actual_numbers (iter_rest l.actual-iterator) ≡ actual_numbers l.actuals
