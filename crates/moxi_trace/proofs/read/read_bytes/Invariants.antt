use Rattle.std.proofs.Common.{◌≡◌, length}
use Rattle.text_core.specs.Places.{start, Reaches}
use Rattle.moxi_trace.specs.Responses.{read_from}
use Rattle.moxi_trace.proofs.read.read_bytes.Given as goal

abbrev pub invariant-bytes : goal.invariant-bytes
invariant-bytes l = record {
  same : read_from l.table l.at l.rest (l.skip, l.reader) ≡ read_from l.table start l.text (0, l.fn.reader);
  reaches : Reaches l.at (length l.rest);
}

abbrev pub decreases-bytes : goal.decreases-bytes
decreases-bytes l = length l.rest
