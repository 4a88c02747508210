use Rattle.std.proofs.Common.{sym, subst, ◌∙◌}
use Rattle.btor_simplify.specs.Order.{IsOrder}
use Rattle.btor_simplify.proofs.Ordering.{no_order, resized}
use Rattle.btor_simplify.proofs.order.no_order.Goals as goal

pub returns-clause-order : goal.returns-clause-order
returns-clause-order c =
    let r = resized c.new-moved.result.items c.resize.new.self.items c.len.result _ c.new-moved.ensures.items c.new-moved.ensures.len c.in_ok-resize.ensures.items in
    subst (λ xs. IsOrder c.args.nodes.now c.args.fates.now 0 xs c.resize.new.self.items) (sym c.new.ensures.items)
    (no_order c.args.nodes.now c.args.fates.now c.resize.new.self.items (r.0 ∙ c.len.ensures.value) r.1)
