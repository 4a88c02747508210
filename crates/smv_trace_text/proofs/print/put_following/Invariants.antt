use Rattle.std.proofs.Common.{◌≡◌, ◌+◌, ◌++◌, drop}
use Rattle.smv_trace_text.specs.Texts.{following_text}
use Rattle.smv_trace_text.proofs.print.put_following.Given as goal

abbrev pub invariant-loop-label : goal.invariant-loop-label
invariant-loop-label l = record {
  text : l.out ++ following_text l.inputs l.number l.rest (drop l.label-index l.labels) ≡ l.fn.out ++ following_text l.inputs 2 l.fn.states l.fn.labels;
  number : l.number ≡ l.label-index + 2;
}
