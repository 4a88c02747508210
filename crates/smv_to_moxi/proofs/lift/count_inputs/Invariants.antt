use Rattle.std.proofs.Common.{◌≡◌, ◌≤◌, map}
use Rattle.smv_items.specs.FlatItemView.{item_plain}
use Rattle.smv_to_moxi.specs.declared.lift.Part.TheVariants.{Label}
use Rattle.smv_to_moxi.proofs.LiftedParts.{before}
use Rattle.smv_to_moxi.proofs.lift.count_inputs.Given as goal

abbrev pub invariant-loop-item : goal.invariant-loop-item
invariant-loop-item l = record {
  counted : l.count ≡ before Label (map item_plain l.items) l.item-index;
  small : l.count ≤ l.item-index;
}
