use Rattle.std.proofs.Common.{◌≡◌, length}
use Rattle.smv_trace_text.specs.Lines.{without_end}
use Rattle.smv_trace_text.proofs.lines.without_end.Given as goal

abbrev pub invariant-loop-b : goal.invariant-loop-b
invariant-loop-b l = without_end l.rest ≡ without_end l.line

abbrev pub decreases-loop-b : goal.decreases-loop-b
decreases-loop-b l = length l.rest
