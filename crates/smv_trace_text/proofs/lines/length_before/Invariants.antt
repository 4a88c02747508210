use Rattle.std.proofs.Common.{◌≡◌, ◌+◌, length}
use Rattle.smv_text.specs.Bytes.{front_length}
use Rattle.smv_trace_text.specs.Lines.{is_other}
use Rattle.smv_trace_text.proofs.lines.length_before.Given as goal

abbrev pub invariant-loop-b : goal.invariant-loop-b
invariant-loop-b l = record {
  rest_is : l.count + front_length (is_other l.mark) l.rest ≡ front_length (is_other l.mark) l.text;
  all : l.count + length l.rest ≡ length l.text;
}

abbrev pub decreases-loop-b : goal.decreases-loop-b
decreases-loop-b l = length l.rest
