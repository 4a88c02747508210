use Rattle.std.proofs.Common.{◌≡◌, ◌+◌, suc, ap, ◌∙◌, arith}
use Rattle.btor_simplify.specs.Order.{order_upto, with_marked}
use Rattle.btor_simplify.proofs.order.order_of.Goals as goal

pub loop-i-init : goal.loop-i-init
loop-i-init c = record { order = c.in_ok-order.ensures.order; moved = λ i h e. absurd (omega (arith, h)); placed = c.in_ok-order.ensures.empty }

pub loop-i-preserved : goal.loop-i-preserved
loop-i-preserved c =
    let step : suc c.loop-i.i ≡ c.loop-i.i + 1 = omega arith in
    record {
      order = c.in_ok-put_marked.ensures.order;
      moved = c.in_ok-put_marked.ensures.moved;
      placed = c.in_ok-put_marked.ensures.placed ∙ ap (with_marked c.args.nodes.now c.args.fates.now c.args.marks.now c.loop-i.i) c.loop-i.invariant.placed ∙ ap (order_upto c.args.nodes.now c.args.fates.now c.args.marks.now) step;
    }
