use Rattle.std.proofs.Common.{◌≡◌, ◌+◌, drop, length, map}
use Rattle.smv_items.specs.FlatItemView.{item_plain}
use Rattle.smv_script.specs.Script.{items_in}
use Rattle.smv_script_terms.specs.Groups.{group_plain}
use Rattle.smv_script_terms.proofs.variables.count_in.Given as goal

abbrev pub invariant-loop-item : goal.invariant-loop-item
invariant-loop-item l = l.count + length (items_in (group_plain l.group) (map item_plain (drop l.item-index l.items))) ≡ length (items_in (group_plain l.group) (map item_plain l.items))
