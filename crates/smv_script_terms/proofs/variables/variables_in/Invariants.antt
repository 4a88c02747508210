use Rattle.std.proofs.Common.{◌≡◌, ◌++◌, drop, map}
use Rattle.smv_items.specs.FlatItemView.{item_plain}
use Rattle.smv_script.specs.Script.{variables_in}
use Rattle.smv_script_terms.specs.Groups.{group_plain}
use Rattle.smv_script_terms.proofs.variables.variables_in.Given as goal

abbrev pub invariant-loop-item : goal.invariant-loop-item
invariant-loop-item l = l.all ++ variables_in l.width (group_plain l.group) (map item_plain (drop l.item-index l.items)) ≡ variables_in l.width (group_plain l.group) (map item_plain l.items)
