use Rattle.std.proofs.Common.{◌+◌, ◌<◌, ◌≤◌, ◌==◌, length, ap, arith}
use Rattle.witness_lift.proofs.Runs.{is_step, labels_more, run_is_lifted, states_more}
use Rattle.witness_lift.proofs.lift.lift_run.Goals as goal

pub add_step-requires-clause-step : goal.add_step-requires-clause-step
add_step-requires-clause-step c =
    let inside : c.loop-i.i < length c.args.witness.now.frames = omega (arith, c.loop-i-test.true, c.len-count.ensures) in
    is_step c.args.chain.now c.args.witness.now c.loop-i.i c.at.result.now inside c.at.ensures c.requires.trace

pub loop-i-preserved : goal.loop-i-preserved
loop-i-preserved c =
    let f = c.args.chain.now in
    let w = c.args.witness.now in
    let i = c.loop-i.i in
    let inside : i < length w.frames = omega (arith, c.loop-i-test.true, c.len-count.ensures) in
    let run = c.add_step.new.run in
    record {
      states = states_more f w i c.at.result.now inside c.at.ensures c.loop-i.run.states run.states c.loop-i.invariant.states c.in_ok-add_step.ensures.states;
      labels = labels_more f w i c.at.result.now inside c.at.ensures (i + 1 == c.len-count.result) (ap (λ n. i + 1 == n) c.len-count.ensures) c.loop-i.run.labels run.labels c.loop-i.invariant.labels c.in_ok-add_step.ensures.labels;
    }

pub returns : goal.returns
returns c =
    let end : length c.args.witness.now.frames ≤ c.loop-i.i = omega (arith, c.loop-i-test.false, c.len-count.ensures) in
    run_is_lifted c.args.chain.now c.args.witness.now c.loop-i.i c.loop-i.run end c.requires.trace.some c.loop-i.invariant.states c.loop-i.invariant.labels
