use Rattle.std.proofs.Common.{◌≡◌, drop}
use Rattle.smv_rows.specs.RowOrders.{has_inputs}
use Rattle.smv_rows.proofs.order.has_inputs.Given as goal

abbrev pub invariant-loop-item : goal.invariant-loop-item
invariant-loop-item l = has_inputs (drop l.item-index l.items) ≡ has_inputs l.items
