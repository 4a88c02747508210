use Rattle.std.proofs.Common.{sym}
use Rattle.btor_witness.proofs.Shaped.{front_more, front_ends}
use Rattle.btor_witness.proofs.shape.number_front.Goals as goal

pub returns-then-not-is_digit : goal.returns-then-not-is_digit
returns-then-not-is_digit c = front_ends c.args.line.now c.loop-b.rest.now c.loop-b.number c.loop-b.invariant

pub loop-b-preserved : goal.loop-b-preserved
loop-b-preserved c =
    front_more c.args.line.now c.loop-b.rest.now c.in-Some.more.now c.loop-b.number c.with_digit-number.result c.in-Some.b.now c.loop-b.invariant c.in-Some.ensures.cases.0 (sym c.if-not-is_digit.ensures) c.with_digit-number.ensures
