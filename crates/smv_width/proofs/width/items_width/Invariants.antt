use Rattle.std.proofs.Common.{◌≡◌, ◌≤◌, drop, map, max}
use Rattle.smv_items.specs.FlatItemView.{item_plain}
use Rattle.smv_flat.specs.FlatWidth.{items_width}
use Rattle.smv_width.proofs.width.items_width.Given as goal

abbrev pub invariant-loop-item : goal.invariant-loop-item
invariant-loop-item l = record {
  value : max l.width (items_width (map item_plain (drop l.item-index l.items))) ≡ items_width (map item_plain l.items);
  bound : l.width ≤ 64;
}
