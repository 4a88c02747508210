use Rattle.std.proofs.Common.{◌+◌, ◌-◌, ◌<◌, Bool, length, subst, arith}
use Rattle.digraph.specs.Visiting.{Spreads}
use Rattle.digraph.proofs.Visits.{near_start, near_met, returns_start, returns_met, first_stays, done_stays, never_back, queue_short}
use Rattle.digraph.proofs.returns.leads_back.Goals as goal

pub spread-requires-clause-near : goal.spread-requires-clause-near
spread-requires-clause-near c = λ k h. near_start c.args.graph.now c.args.start _ k h

pub returns-then-branch : goal.returns-then-branch
returns-then-branch c =
    let there = subst (λ (b : Bool). Spreads c.args.graph.now c.args.start c.args.start c.in_ok-visit.visit c.spread.new.self b) c.if-branch.true c.in_ok-spread.ensures in
    λ n l. returns_start c.args.graph.now c.args.start n there l

pub spread-requires-in-loop-p-clause-near : goal.spread-requires-in-loop-p-clause-near
spread-requires-in-loop-p-clause-near c =
    λ k h. near_met c.args.graph.now c.args.start c.loop-p.p c.at.result k c.loop-p.visit c.loop-p.invariant.visit (omega (arith, c.loop-p-test.true, c.len-in-loop-p.ensures)) c.at.ensures h

pub returns-then-branch-2 : goal.returns-then-branch-2
returns-then-branch-2 c =
    let there = subst (λ (b : Bool). Spreads c.args.graph.now c.args.start c.at.result c.loop-p.visit c.spread-in-loop-p.new.self b) c.if-branch-2.true c.in_ok-spread-2.ensures in
    λ n l. returns_met c.args.graph.now c.args.start c.loop-p.p c.at.result n c.loop-p.visit c.loop-p.invariant.visit (omega (arith, c.loop-p-test.true, c.len-in-loop-p.ensures)) c.at.ensures there l

pub loop-p-smaller : goal.loop-p-smaller
loop-p-smaller c =
    let short = queue_short c.args.graph.now c.args.start c.loop-p.visit c.loop-p.invariant.visit in
    let low : c.loop-p.p < length c.args.graph.now = omega (arith, short, c.loop-p-test.true, c.len-in-loop-p.ensures) in
    let falls : length c.args.graph.now - (c.loop-p.p + 1) < length c.args.graph.now - c.loop-p.p = omega (arith, low) in
    falls

pub loop-p-preserved : goal.loop-p-preserved
loop-p-preserved c =
    let i = c.loop-p.invariant in
    let l = c.loop-p-test.true in
    let on = subst (λ (b : Bool). Spreads c.args.graph.now c.args.start c.at.result c.loop-p.visit c.spread-in-loop-p.new.self b) c.if-branch-2.false c.in_ok-spread-2.ensures in
    record {
      visit = on.visit;
      low = omega (arith, l, c.len-in-loop-p.ensures, on.extends.longer);
      first = first_stays c.args.graph.now c.args.start c.loop-p.visit c.spread-in-loop-p.new.self on.extends i.first;
      done = done_stays c.args.graph.now c.args.start c.loop-p.p c.at.result c.loop-p.visit c.spread-in-loop-p.new.self (omega (arith, l, c.len-in-loop-p.ensures)) c.at.ensures on i.done;
    }

pub returns : goal.returns
returns c =
    λ n. never_back c.args.graph.now c.args.start c.loop-p.p c.loop-p.visit c.loop-p.invariant.visit (omega (arith, c.loop-p-test.false, c.len-in-loop-p.ensures)) c.loop-p.invariant.first c.loop-p.invariant.done n
