use Rattle.std.proofs.Common.{◌≡◌, ◌++◌, map, flat_map}
use Rattle.std.specs.Slice.Iter.{iter_rest}
use Rattle.smv_text.specs.View.{plain_element}
use Rattle.smv_meaning.specs.Phases.{element_declares}
use Rattle.smv_names.specs.View.{declared_plain}
use Rattle.smv_names.proofs.declared.add_elements.Given as goal

abbrev pub invariant-loop-element : goal.invariant-loop-element
invariant-loop-element l = map declared_plain l.list.items ++ flat_map element_declares (map plain_element (iter_rest l.element-iterator)) ≡ map declared_plain l.fn.list.items ++ flat_map element_declares (map plain_element l.elements)
