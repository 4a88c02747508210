use Rattle.std.proofs.Common.{◌≡◌, ◌++◌, map}
use Rattle.std.specs.Slice.Iter.{iter_rest}
use Rattle.std.specs.Iterator.Adapters.{zip_first, zip_second}
use Rattle.smv_text.specs.Tree.{trees_of}
use Rattle.smv_text.specs.View.{plain}
use Rattle.smv_meaning.specs.Bodies.{actual_bodies}
use Rattle.smv_references.specs.View.{body_plain}
use Rattle.smv_references.proofs.bodies.add_actuals.Given as goal

abbrev pub invariant-loop-parameter : goal.invariant-loop-parameter
invariant-loop-parameter l =
    map body_plain l.bodies.items ++ actual_bodies l.i (iter_rest (zip_first l.parameter-iterator)) (trees_of (map plain (iter_rest (zip_second l.parameter-iterator))))
    ≡ map body_plain l.fn.bodies.items ++ actual_bodies l.i l.parameters (trees_of (map plain l.actuals))
