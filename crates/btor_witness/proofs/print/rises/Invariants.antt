use Rattle.std.proofs.Common.{◌≡◌}
use Rattle.std.specs.Slice.Iter.{iter_rest}
use Rattle.btor_witness.specs.Printing.{rises_from}
use Rattle.btor_witness.proofs.print.rises.Given as goal

abbrev pub invariant-loop-statement : goal.invariant-loop-statement
invariant-loop-statement l = rises_from l.least (iter_rest l.statement-iterator) ≡ rises_from 0 l.fn.stated
