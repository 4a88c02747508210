use Rattle.std.proofs.Common.{◌≡◌, false, replicate}
use Rattle.smv_trace.proofs.reader.none_known.Given as goal

abbrev pub invariant-loop-k : goal.invariant-loop-k
invariant-loop-k l = l.known.items ≡ replicate l._k false
