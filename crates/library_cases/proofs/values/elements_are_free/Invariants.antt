use Rattle.std.proofs.Common.{◌≡◌, map}
use Rattle.std.specs.List.{list_all}
use Rattle.std.specs.Slice.Iter.{iter_rest}
use Rattle.smv_text.specs.View.{plain_element}
use Rattle.library_cases.specs.Free.{is_free_element}
use Rattle.library_cases.proofs.values.elements_are_free.Given as goal

abbrev pub invariant-loop-element : goal.invariant-loop-element
invariant-loop-element l = list_all is_free_element (map plain_element (iter_rest l.element-iterator)) ≡ list_all is_free_element (map plain_element l.elements)
