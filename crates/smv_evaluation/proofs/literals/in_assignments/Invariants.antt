use Rattle.std.proofs.Common.{◌≡◌, map}
use Rattle.std.specs.List.{list_all}
use Rattle.std.specs.Slice.Iter.{iter_rest}
use Rattle.smv_text.specs.Heights.{of_assignments}
use Rattle.smv_text.specs.View.{plain_assignment}
use Rattle.smv_meaning.specs.Literals.{words_fit}
use Rattle.smv_evaluation.proofs.literals.in_assignments.Given as goal

abbrev pub invariant-loop-assignment : goal.invariant-loop-assignment
invariant-loop-assignment l = list_all words_fit (of_assignments (map plain_assignment (iter_rest l.assignment-iterator))) ≡ list_all words_fit (of_assignments (map plain_assignment l.fn.assignments))
