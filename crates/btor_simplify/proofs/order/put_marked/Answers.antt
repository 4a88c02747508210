use Rattle.std.proofs.Common.{cond, sym, ap, ◌∙◌}
use Rattle.std.specs.Prelude.{slice_get}
use Rattle.btor_simplify.specs.Order.{with_line}
use Rattle.btor_simplify.proofs.Ordering.{ok_one_so, order_next, marked_skip}
use Rattle.btor_simplify.proofs.order.put_marked.Goals as goal

pub returns-else-marks-i-clause-order : goal.returns-else-marks-i-clause-order
returns-else-marks-i-clause-order c =
    order_next c.args.nodes.now c.args.fates.now c.args.i c.args.order.now.places.items c.args.order.now.moved.items c.requires.order

pub returns-else-marks-i-clause-moved : goal.returns-else-marks-i-clause-moved
returns-else-marks-i-clause-moved c =
    marked_skip c.args.marks.now c.args.i c.args.order.now.moved.items c.requires.moved c.if-marks-i.false

pub returns-then-marks-i-clause-placed : goal.returns-then-marks-i-clause-placed
returns-then-marks-i-clause-placed c =
    let places = c.args.order.now.places.items in
    let line = with_line c.args.fates.now c.args.i (slice_get c.args.nodes.now c.args.i) places in
    ok_one_so c.put_line.result _ _ (λ p. p ∙ sym (ap (λ b. cond b line places) c.if-marks-i.true)) c.put_line.ensures.placed

pub returns-else-marks-i-clause-placed : goal.returns-else-marks-i-clause-placed
returns-else-marks-i-clause-placed c =
    let places = c.args.order.now.places.items in
    let line = with_line c.args.fates.now c.args.i (slice_get c.args.nodes.now c.args.i) places in
    sym (ap (λ b. cond b line places) c.if-marks-i.false)
