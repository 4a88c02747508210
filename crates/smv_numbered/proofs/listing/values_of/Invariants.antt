use Rattle.std.proofs.Common.{◌≡◌, ◌++◌, map}
use Rattle.std.specs.Slice.Iter.{iter_rest}
use Rattle.std.specs.Iterator.Adapters.{zip_first, zip_second}
use Rattle.smv_items.specs.FlatItemView.{item_plain}
use Rattle.smv_numbered.specs.Values.{values_of, stated_value}
use Rattle.smv_numbered.proofs.listing.values_of.Given as goal

abbrev pub invariant-loop-item : goal.invariant-loop-item
invariant-loop-item l =
    l.state ++ values_of l.heading (map item_plain (iter_rest (zip_first l.item-iterator))) (map stated_value (iter_rest (zip_second l.item-iterator)))
    ≡ values_of l.heading (map item_plain l.items) (map stated_value l.stated)
