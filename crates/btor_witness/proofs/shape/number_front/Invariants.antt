use Rattle.std.proofs.Common.{length}
use Rattle.btor_witness.proofs.Shaped.{FrontRead}
use Rattle.btor_witness.proofs.shape.number_front.Given as goal

abbrev pub invariant-loop-b : goal.invariant-loop-b
invariant-loop-b l = FrontRead l.line l.number l.rest

abbrev pub decreases-loop-b : goal.decreases-loop-b
decreases-loop-b l = length l.rest
