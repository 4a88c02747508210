use Rattle.std.proofs.Common.{◌≡◌, length}
use Rattle.smv_trace_text.proofs.lines.without_zeros.Given as goal
use Rattle.text_core.specs.Bytes.{without_zeros}

abbrev pub invariant-loop-b : goal.invariant-loop-b
invariant-loop-b l = without_zeros l.rest ≡ without_zeros l.digits

abbrev pub decreases-loop-b : goal.decreases-loop-b
decreases-loop-b l = length l.rest
