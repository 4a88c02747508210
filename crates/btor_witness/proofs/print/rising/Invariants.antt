use Rattle.std.proofs.Common.{◌≡◌}
use Rattle.btor_witness.specs.Printing as printing
use Rattle.btor_witness.proofs.print.rising.Given as goal

abbrev pub invariant-loop-index : goal.invariant-loop-index
invariant-loop-index l = l.rising ≡ printing.rising l.stated l.index
