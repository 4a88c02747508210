use Rattle.std.proofs.Common.{◌≡◌, ◌-◌, IfOk, length, subst}
use Rattle.moxi_scripts.specs.Meeting.{is_reached_before}
use Rattle.moxi_judge.specs.FlatTests.{free_script}
use Rattle.moxi_judge.proofs.Steps.{behind_parts}
use Rattle.moxi_judge.proofs.judge.step_failing.Goals as goal
use Rattle.moxi_scripts.specs.Behaviour.{trace_of}

pub returns : goal.returns
returns c =
    let envs = c.args.trace.now in
    subst (λ o. IfOk c.query_failing.result (λ failing. failing ≡ o))
    (behind_parts c.args.system.now c.args.query.now (length envs - 1) envs c.args.step c.in_ok-clause.field-0 c.index-trace-step.result c.requires.there c.index-trace-step.is c.in_ok-clause.ensures c.in_default.is)
    (c.query_failing.ensures (is_reached_before (free_script c.args.system.now) (trace_of envs) c.args.step) c.requires.marks)
