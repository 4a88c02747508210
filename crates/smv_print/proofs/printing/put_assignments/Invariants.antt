use Rattle.std.proofs.Common.{◌≡◌, ◌++◌, map}
use Rattle.std.specs.Slice.Iter.{iter_rest}
use Rattle.std.specs.List.{flat_map}
use Rattle.smv_text.specs.View.{plain_assignment}
use Rattle.smv_lex.specs.Spelling.{spaced}
use Rattle.smv_print.specs.Printing.{assignment_kinds}
use Rattle.smv_print.proofs.printing.put_assignments.Given as goal

abbrev pub invariant-loop-assignment : goal.invariant-loop-assignment
invariant-loop-assignment l = l.out ++ spaced (flat_map assignment_kinds (map plain_assignment (iter_rest l.assignment-iterator))) ≡ l.fn.out ++ spaced (flat_map assignment_kinds (map plain_assignment l.fn.assignments))
