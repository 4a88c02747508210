use Rattle.std.proofs.Common.{◌≡◌, ◌++◌, map}
use Rattle.std.specs.Prelude.{flat_map}
use Rattle.std.specs.Slice.Iter.{iter_rest}
use Rattle.smv_text.specs.View.{plain_element}
use Rattle.smv_meaning.specs.Bodies.{element_bodies}
use Rattle.smv_references.specs.View.{body_plain}
use Rattle.smv_references.proofs.bodies.add_elements.Given as goal

abbrev pub invariant-loop-element : goal.invariant-loop-element
invariant-loop-element l =
    map body_plain l.bodies.items ++ flat_map (element_bodies l.i) (map plain_element (iter_rest l.element-iterator))
    ≡ map body_plain l.fn.bodies.items ++ flat_map (element_bodies l.i) (map plain_element l.elements)
