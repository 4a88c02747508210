use Rattle.std.proofs.Common.{◌≡◌, ◌++◌, map}
use Rattle.std.specs.Prelude.{flat_map}
use Rattle.std.specs.Slice.Iter.{iter_rest}
use Rattle.smv_text.specs.View.{plain_item}
use Rattle.smv_items.specs.FlatItems.{variable_item}
use Rattle.smv_items.specs.FlatOrigins.{origin_plain}
use Rattle.smv_items.proofs.origins.add_variables.Given as goal

abbrev pub invariant-loop-item : goal.invariant-loop-item
invariant-loop-item l =
    map origin_plain l.origins.items ++ flat_map (variable_item l.i l.kind) (map plain_item (iter_rest l.item-iterator))
    ≡ map origin_plain l.fn.origins.items ++ flat_map (variable_item l.i l.kind) (map plain_item l.fn.items)
