use Rattle.btor_simplify.specs.Written.{IsWritten}
use Rattle.btor_simplify.proofs.write.lines_of.Given as goal

abbrev pub invariant-loop-q : goal.invariant-loop-q
invariant-loop-q l = IsWritten l.nodes l.fates l.order.places.items l.order.moved.items l.q l.lines
