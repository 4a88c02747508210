use Rattle.std.proofs.Common.{◌≡◌, ◌++◌, drop}
use Rattle.moxi_trace.specs.Reading.{values_of}
use Rattle.moxi_trace.proofs.reader.values_of.Given as goal

abbrev pub invariant-loop-value : goal.invariant-loop-value
invariant-loop-value l = l.values ++ values_of (drop l.value-index l.stated) ≡ values_of l.stated
