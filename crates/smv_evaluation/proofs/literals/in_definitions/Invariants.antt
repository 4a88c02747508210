use Rattle.std.proofs.Common.{◌≡◌, map}
use Rattle.std.specs.List.{list_all}
use Rattle.std.specs.Slice.Iter.{iter_rest}
use Rattle.smv_text.specs.Heights.{of_definitions}
use Rattle.smv_text.specs.View.{plain_definition}
use Rattle.smv_meaning.specs.Literals.{words_fit}
use Rattle.smv_evaluation.proofs.literals.in_definitions.Given as goal

abbrev pub invariant-loop-definition : goal.invariant-loop-definition
invariant-loop-definition l = list_all words_fit (of_definitions (map plain_definition (iter_rest l.definition-iterator))) ≡ list_all words_fit (of_definitions (map plain_definition l.fn.definitions))
