use Rattle.std.proofs.Common.{◌≡◌}
use Rattle.btor_simplify.specs.Order.{IsOrder, HaveMarkedMoved, order_upto}
use Rattle.btor_simplify.proofs.order.order_of.Given as goal

abbrev pub invariant-loop-i : goal.invariant-loop-i
invariant-loop-i l =
    record { order : IsOrder l.nodes l.fates l.i l.order.places.items l.order.moved.items; moved : HaveMarkedMoved l.marks l.i l.order.moved.items; placed : l.order.places.items ≡ order_upto l.nodes l.fates l.marks l.i }
