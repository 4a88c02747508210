use Rattle.std.proofs.Common.{◌≡◌, sym, subst, arith, length}
use Rattle.btor_simplify.specs.Written.{IsWritten}
use Rattle.btor_simplify.proofs.Writing.{none_written}
use Rattle.btor_simplify.proofs.write.lines_of.Goals as goal

pub loop-q-init : goal.loop-q-init
loop-q-init c =
    subst (IsWritten c.args.nodes.now c.args.fates.now c.args.order.now.places.items c.args.order.now.moved.items 0) (sym c.new-lines.ensures)
    (none_written c.args.nodes.now c.args.fates.now c.args.order.now.places.items c.args.order.now.moved.items)

pub returns-clause-written : goal.returns-clause-written
returns-clause-written c =
    let all : c.loop-q.q ≡ length c.args.order.now.places.items = omega (arith, c.loop-q-test.false, c.loop-q.auto.q-end, c.len-q-end.ensures, c.args.order.now.places.ok) in
    subst (λ n. IsWritten c.args.nodes.now c.args.fates.now c.args.order.now.places.items c.args.order.now.moved.items n c.loop-q.lines) all c.loop-q.invariant
