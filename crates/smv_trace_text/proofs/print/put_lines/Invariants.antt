use Rattle.std.proofs.Common.{◌≡◌, ◌++◌, length}
use Rattle.std.specs.List.{flat_map}
use Rattle.smv_trace_text.specs.Texts.{value_line, unmargined}
use Rattle.smv_trace_text.proofs.print.put_lines.Given as goal

abbrev pub invariant-loop-given : goal.invariant-loop-given
invariant-loop-given l = l.out ++ unmargined l.rest ≡ l.fn.out ++ flat_map value_line l.fn.values

abbrev pub decreases-loop-given : goal.decreases-loop-given
decreases-loop-given l = length l.rest
