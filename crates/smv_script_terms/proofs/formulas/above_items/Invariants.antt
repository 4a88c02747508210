use Rattle.std.proofs.Common.{◌≡◌, drop, map, max}
use Rattle.smv_items.specs.FlatItemView.{item_plain}
use Rattle.smv_script.specs.Script.{above_items}
use Rattle.smv_script_terms.proofs.formulas.above_items.Given as goal

abbrev pub invariant-loop-item : goal.invariant-loop-item
invariant-loop-item l = max l.most (above_items (map item_plain (drop l.item-index l.items))) ≡ above_items (map item_plain l.items)
