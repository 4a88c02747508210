use Rattle.std.proofs.Common.{◌-◌, length}
use Rattle.btor_simplify.specs.Marks.{AreMarks}
use Rattle.btor_simplify.proofs.marks.marks_of.Given as goal

abbrev pub invariant-loop-k : goal.invariant-loop-k
invariant-loop-k l = AreMarks l.nodes l.fates (length l.nodes - l.k) l.marks.items
