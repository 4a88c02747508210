use Rattle.std.proofs.Common.{◌≡◌, ◌+◌, ◌-◌, ◌<◌, map, length, sym, subst, arith}
use Rattle.std.proofs.lemmas.List.{get_or_default}
use Rattle.smv_text.specs.View.{plain}
use Rattle.smv_instances.specs.View.{instance_plain}
use Rattle.smv_laws.proofs.Ranked.{key}
use Rattle.smv_laws.proofs.OrderLaws.{number}
use Rattle.smv_references.specs.laws.NumberLemmas.{read}
use Rattle.smv_laws.proofs.Positions.{at_place, upto_positive}
use Rattle.smv_evaluation.proofs.Positions.{kept_low, kept_at}
use Rattle.smv_evaluation.proofs.Reaching.{start_on, least_on, ClosedBehind, closed_on, closed_end, first_starts, first_least}
use Rattle.smv_evaluation.proofs.reached.marks_of.Goals as goal

pub loop-n-init : goal.loop-n-init
loop-n-init c =
    let t = map instance_plain c.args.table.now in
    record {
      within = omega (arith, c.len-n.ensures);
      starts = first_starts t c.args.i (plain c.args.e.now) c.nothing_in-marks.result c.mark_body.new.marks c.nothing_in-marks.ensures c.in_ok-mark_body.ensures;
      closed = closed_end t c.args.order.now c.requires.order c.mark_body.new.marks c.len-n.result c.len-n.ensures;
      least = first_least t c.args.i (plain c.args.e.now) c.nothing_in-marks.result c.mark_body.new.marks c.nothing_in-marks.ensures c.in_ok-mark_body.ensures;
    }

pub loop-n-preserved : goal.loop-n-preserved
loop-n-preserved c =
    let t = map instance_plain c.args.table.now in
    let n = c.loop-n.n - 1 in
    let back : n + 1 ≡ c.loop-n.n = omega (arith, c.loop-n-test.true) in
    let less : n < length c.args.order.now = omega (arith, c.loop-n.invariant.within, c.loop-n-test.true) in
    let f = read c.args.bodies.now c.at-k.result.now in
    let low = kept_low c.args.bodies.now t c.args.order.now c.requires.bodies c.requires.order n c.at-k.result.now less c.at-k.ensures in
    let at : at_place t c.args.order.now n ≡ key f.instance f.name.now =
    kept_at c.args.bodies.now t c.args.order.now c.requires.bodies c.requires.order n c.at-k.result.now f less c.at-k.ensures (get_or_default c.args.bodies.now c.at-k.result.now _ _ low) in
    record {
      within = omega (arith, less);
      starts = start_on t c.loop-n.marks c.mark_on.new.marks f.instance f.name.now c.in_ok-mark_on.ensures c.args.i (plain c.args.e.now) c.loop-n.invariant.starts;
      closed = closed_on t c.args.order.now c.requires.order c.loop-n.marks c.mark_on.new.marks n f.instance f.name.now less at c.in_ok-mark_on.ensures
          (subst (λ k. ClosedBehind t c.args.order.now c.loop-n.marks k) (sym back) c.loop-n.invariant.closed);
      least = least_on t c.loop-n.marks c.mark_on.new.marks f.instance f.name.now c.in_ok-mark_on.ensures c.args.i (plain c.args.e.now) c.loop-n.invariant.least;
    }

pub returns-clause-closed : goal.returns-clause-closed
returns-clause-closed c = λ k x l y m s.
    c.loop-n.invariant.closed k x l y (omega (arith, c.loop-n-test.false, upto_positive c.args.order.now (number (map instance_plain c.args.table.now) (key k x)))) m s
