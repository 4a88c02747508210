use Rattle.std.proofs.Common.{◌≡◌, ◌++◌, map}
use Rattle.std.specs.Slice.Iter.{iter_rest}
use Rattle.std.specs.List.{flat_map}
use Rattle.smv_text.specs.View.{plain_element}
use Rattle.smv_lex.specs.Spelling.{spaced}
use Rattle.smv_print.specs.Printing.{element_kinds}
use Rattle.smv_print.proofs.printing.put_elements.Given as goal

abbrev pub invariant-loop-element : goal.invariant-loop-element
invariant-loop-element l = l.out ++ spaced (flat_map element_kinds (map plain_element (iter_rest l.element-iterator))) ≡ l.fn.out ++ spaced (flat_map element_kinds (map plain_element l.fn.elements))
