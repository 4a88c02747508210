use Rattle.std.proofs.Common.{◌≡◌, ℕ, ◌+◌, ◌-◌, length}
use Rattle.moxi_scripts.specs.Meeting.{is_reached_before}
use Rattle.moxi_judge.specs.FlatTests.{Remember, free_script, judged_by_parts}
use Rattle.moxi_judge.proofs.judge.judge_steps.Given as goal
use Rattle.moxi_scripts.specs.Behaviour.{trace_of}

abbrev pub invariant-loop-step : goal.invariant-loop-step
invariant-loop-step l =
    let last : ℕ = length l.trace - 1 in record {
      marks : Remember (is_reached_before (free_script l.system) (trace_of l.trace) l.step) l.query.reachables l.marks.items;
      same : (n : ℕ) → l.step + n ≡ length l.trace → judged_by_parts l.system l.query last (trace_of l.trace) l.step n ≡ judged_by_parts l.system l.query last (trace_of l.trace) 0 (length l.trace);
    }
