use Rattle.std.proofs.Common.{◌≡◌, drop}
use Rattle.smv_trace.specs.Numbering.{lacks_known}
use Rattle.smv_trace.proofs.reader.lacks_known.Given as goal

abbrev pub invariant-loop-k : goal.invariant-loop-k
invariant-loop-k l = lacks_known l.heading (drop l.k l.table.items) (drop l.k l.known) ≡ lacks_known l.heading l.table.items l.known
