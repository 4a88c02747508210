use Rattle.std.proofs.Common.{◌≡◌, map, flat_map}
use Rattle.std.specs.List.{list_all}
use Rattle.std.specs.Slice.Iter.{iter_rest}
use Rattle.smv_text.specs.View.{plain_element}
use Rattle.smv_meaning.specs.Literals.{words_fit}
use Rattle.smv_meaning.specs.Parts.{expressions_in}
use Rattle.smv_evaluation.proofs.literals.in_elements.Given as goal

abbrev pub invariant-loop-element : goal.invariant-loop-element
invariant-loop-element l =
    list_all words_fit (flat_map expressions_in (map plain_element (iter_rest l.element-iterator))) ≡ list_all words_fit (flat_map expressions_in (map plain_element l.fn.elements))
