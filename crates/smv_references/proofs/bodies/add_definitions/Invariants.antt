use Rattle.std.proofs.Common.{◌≡◌, ◌++◌, map}
use Rattle.std.specs.Slice.Iter.{iter_rest}
use Rattle.smv_text.specs.View.{plain_definition}
use Rattle.smv_meaning.specs.Bodies.{placed_definition}
use Rattle.smv_references.specs.View.{body_plain}
use Rattle.smv_references.proofs.bodies.add_definitions.Given as goal

abbrev pub invariant-loop-definition : goal.invariant-loop-definition
invariant-loop-definition l =
    map body_plain l.bodies.items ++ map (placed_definition l.i) (map plain_definition (iter_rest l.definition-iterator))
    ≡ map body_plain l.fn.bodies.items ++ map (placed_definition l.i) (map plain_definition l.definitions)
