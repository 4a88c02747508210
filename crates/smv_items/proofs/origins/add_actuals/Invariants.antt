use Rattle.std.proofs.Common.{◌≡◌, ◌++◌, map}
use Rattle.std.specs.Slice.Iter.{iter_rest}
use Rattle.std.specs.Iterator.Adapters.{zip_first, zip_second}
use Rattle.smv_text.specs.Tree.{trees_of}
use Rattle.smv_text.specs.View.{plain}
use Rattle.smv_items.specs.FlatItems.{actual_items}
use Rattle.smv_items.specs.FlatOrigins.{origin_plain}
use Rattle.smv_items.proofs.origins.add_actuals.Given as goal

abbrev pub invariant-loop-parameter : goal.invariant-loop-parameter
invariant-loop-parameter l =
    map origin_plain l.origins.items ++ actual_items l.i l.parent (iter_rest (zip_first l.parameter-iterator)) (trees_of (map plain (iter_rest (zip_second l.parameter-iterator))))
    ≡ map origin_plain l.fn.origins.items ++ actual_items l.i l.parent l.parameters (trees_of (map plain l.actuals))
