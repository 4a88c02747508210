use Rattle.std.proofs.Common.{◌≡◌, ◌+◌, ◌≤◌, length}
use Rattle.text_core.specs.Places.{start, after}
use Rattle.smv_trace_text.specs.Lines.{lines_of}
use Rattle.smv_trace.specs.Numbering.{reading_of}
use Rattle.smv_trace.specs.Texts.{lines_read}
use Rattle.smv_trace.proofs.read.read_lines.Given as goal

abbrev pub invariant-lines : goal.invariant-lines
invariant-lines l = record {
  table : l.reader.table ≡ l.fn.reader.table;
  same : lines_read l.reader.table (after start l.text) l.at (lines_of l.rest) (reading_of l.reader) ≡ lines_read l.fn.reader.table (after start l.text) start (lines_of l.text) (reading_of l.fn.reader);
  line : l.at.line + length l.rest ≤ length l.text + 1;
  offset : l.at.offset + length l.rest ≡ length l.text;
}

abbrev pub decreases-lines : goal.decreases-lines
decreases-lines l = length l.rest
