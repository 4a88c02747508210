use Rattle.std.proofs.Common.{◌≡◌, None, replicate}
use Rattle.moxi_trace.proofs.reader.nothing_stated.Given as goal

abbrev pub invariant-loop-k : goal.invariant-loop-k
invariant-loop-k l = l.stated.items ≡ replicate l._k None
