use Rattle.std.proofs.Common.{◌≡◌, drop}
use Rattle.moxi_trace.specs.Reading.{lacks}
use Rattle.moxi_trace.proofs.reader.lacks.Given as goal

abbrev pub invariant-loop-value : goal.invariant-loop-value
invariant-loop-value l = lacks (drop l.value-index l.stated) ≡ lacks l.stated
