use Rattle.std.proofs.Common.{◌≡◌, ◌++◌, map}
use Rattle.std.specs.Prelude.{flat_map}
use Rattle.std.specs.Slice.Iter.{iter_rest}
use Rattle.smv_text.specs.View.{plain_element}
use Rattle.smv_items.specs.FlatItems.{element_items}
use Rattle.smv_items.specs.FlatOrigins.{origin_plain}
use Rattle.smv_items.proofs.origins.add_elements.Given as goal

abbrev pub invariant-loop-element : goal.invariant-loop-element
invariant-loop-element l =
    map origin_plain l.origins.items ++ flat_map (element_items l.i) (map plain_element (iter_rest l.element-iterator))
    ≡ map origin_plain l.fn.origins.items ++ flat_map (element_items l.i) (map plain_element l.fn.elements)
