use Rattle.std.proofs.Common.{◌<◌, ◌≤◌, arith, subst}
use Rattle.moxi_to_btor.proofs.Choices.{below_width, doubled, width_reached, width_small}
use Rattle.moxi_to_btor.proofs.operators.choice_width.Goals as goal

pub overflow_add-width : goal.overflow_add-width
overflow_add-width c =
    let l = c.loop-holds in
    omega (arith, width_small c.args.count l.width (subst (λ n. n < c.args.count) l.invariant.power c.loop-holds-test.true) c.ranges.count.fits)

pub loop-holds-preserved : goal.loop-holds-preserved
loop-holds-preserved c =
    let l = c.loop-holds in
    record {
      low = omega arith;
      power = doubled l.holds l.width l.invariant.power;
      least = below_width c.args.count l.width (subst (λ n. n < c.args.count) l.invariant.power c.loop-holds-test.true);
    }

pub returns : goal.returns
returns c =
    let l = c.loop-holds in
    width_reached c.args.count l.width l.invariant.low l.invariant.least (subst (λ n. c.args.count ≤ n) l.invariant.power c.loop-holds-test.false)
