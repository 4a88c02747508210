use Rattle.btor_simplify.specs.Marks.{MarksUpto}
use Rattle.btor_simplify.proofs.marks.mark_args.Given as goal

abbrev pub invariant-loop-k : goal.invariant-loop-k
invariant-loop-k l = MarksUpto l.fates l.args l.k l.initial.marks l.marks
