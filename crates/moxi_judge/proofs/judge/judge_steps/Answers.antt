use Rattle.std.proofs.Common.{◌≡◌, ℕ, ◌+◌, ◌-◌, length, subst, arith}
use Rattle.moxi_scripts.specs.Meeting.{is_reached_before}
use Rattle.moxi_judge.specs.FlatTests.{free_script, judged_by_parts}
use Rattle.moxi_judge.proofs.Steps.{ends_here, fails_here, goes_on, marks_go_on}
use Rattle.moxi_judge.proofs.judge.judge_steps.Goals as goal
use Rattle.moxi_scripts.specs.Behaviour.{trace_of}

pub returns-in-Some : goal.returns-in-Some
returns-in-Some c =
    let envs = c.args.trace.now in
    fails_here c.args.system.now c.args.query.now (length envs - 1) (trace_of envs) (judged_by_parts c.args.system.now c.args.query.now (length envs - 1) (trace_of envs) 0 (length envs)) (length envs) c.loop-step.step
    (omega (arith, c.loop-step-test.true)) c.loop-step.invariant.same c.in_ok-clause.field-0 c.in_ok-clause.ensures c.in-Some.clause c.in-Some.is

pub loop-step-preserved : goal.loop-step-preserved
loop-step-preserved c =
    let envs = c.args.trace.now in
    let s = free_script c.args.system.now in
    record {
      marks =
          marks_go_on s envs c.loop-step.step c.index-trace-step.result c.args.query.now.reachables c.mark_reached.new.marks.items (omega (arith, c.loop-step-test.true)) c.index-trace-step.is
          (c.in_ok-mark_reached.ensures (is_reached_before s (trace_of envs) c.loop-step.step) c.loop-step.invariant.marks);
      same =
          goes_on c.args.system.now c.args.query.now (length envs - 1) (trace_of envs) (judged_by_parts c.args.system.now c.args.query.now (length envs - 1) (trace_of envs) 0 (length envs)) (length envs) c.loop-step.step
          (omega (arith, c.loop-step-test.true)) c.loop-step.invariant.same c.in_ok-clause.field-0 c.in_ok-clause.ensures c.in_default.is;
    }

pub returns-in-Some-2 : goal.returns-in-Some-2
returns-in-Some-2 c =
    let envs = c.args.trace.now in
    let some = c.requires.trace.some in
    let last : c.loop-step.step ≡ length envs - 1 = omega (arith, c.loop-step-test.false, c.loop-step.auto.step-end) in
    let whole = judged_by_parts c.args.system.now c.args.query.now (length envs - 1) (trace_of envs) 0 (length envs) in
    let Same : ℕ → Type 0 = λ j. (n : ℕ) → j + n ≡ length envs → judged_by_parts c.args.system.now c.args.query.now (length envs - 1) (trace_of envs) j n ≡ whole in
    fails_here c.args.system.now c.args.query.now (length envs - 1) (trace_of envs) whole (length envs) (length envs - 1) (omega (arith, some)) (subst Same last c.loop-step.invariant.same) c.in_ok-clause-2.field-0
    c.in_ok-clause-2.ensures c.in-Some-2.clause c.in-Some-2.is

pub returns : goal.returns
returns c =
    let envs = c.args.trace.now in
    let some = c.requires.trace.some in
    let last : c.loop-step.step ≡ length envs - 1 = omega (arith, c.loop-step-test.false, c.loop-step.auto.step-end) in
    let whole = judged_by_parts c.args.system.now c.args.query.now (length envs - 1) (trace_of envs) 0 (length envs) in
    let Same : ℕ → Type 0 = λ j. (n : ℕ) → j + n ≡ length envs → judged_by_parts c.args.system.now c.args.query.now (length envs - 1) (trace_of envs) j n ≡ whole in
    ends_here c.args.system.now c.args.query.now (length envs - 1) (trace_of envs) whole (length envs) (length envs - 1) (omega (arith, some)) (subst Same last c.loop-step.invariant.same) c.in_ok-clause-2.field-0
    c.in_ok-clause-2.ensures c.in-None.is (omega (arith, some))
