use Rattle.std.proofs.Common.{◌≡◌, map}
use Rattle.std.specs.Prelude.{flat_map}
use Rattle.std.specs.Slice.Iter.{iter_rest}
use Rattle.smv_text.specs.View.{plain_element}
use Rattle.smv_items.specs.FlatItems.{gathered, element_symbols}
use Rattle.smv_items.proofs.symbols.note_elements.Given as goal

abbrev pub invariant-loop-element : goal.invariant-loop-element
invariant-loop-element l = gathered l.symbols (flat_map element_symbols (map plain_element (iter_rest l.element-iterator))) ≡ gathered l.fn.symbols (flat_map element_symbols (map plain_element l.fn.elements))
