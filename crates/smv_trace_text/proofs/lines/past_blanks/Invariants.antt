use Rattle.std.proofs.Common.{◌≡◌, length}
use Rattle.smv_trace_text.specs.Lines.{past_blanks}
use Rattle.smv_trace_text.proofs.lines.past_blanks.Given as goal

abbrev pub invariant-loop-b : goal.invariant-loop-b
invariant-loop-b l = past_blanks l.rest ≡ past_blanks l.line

abbrev pub decreases-loop-b : goal.decreases-loop-b
decreases-loop-b l = length l.rest
