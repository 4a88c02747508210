use Rattle.std.proofs.Common.{◌≡◌, ◌++◌, ◌+◌, ◌≤◌, ◌^◌, length}
use Rattle.std.specs.Slice.Iter.{iter_rest}
use Rattle.moxi_trace.specs.Texts.{steps_text}
use Rattle.moxi_trace.proofs.print.put_steps.Given as goal

abbrev pub invariant-loop-step : goal.invariant-loop-step
invariant-loop-step l = record {
  text : l.out ++ steps_text l.declarations l.number (iter_rest l.step-iterator) ≡ l.fn.out ++ steps_text l.declarations 0 l.fn.steps;
  number : l.number + length (iter_rest l.step-iterator) ≤ 2 ^ 64;
}
