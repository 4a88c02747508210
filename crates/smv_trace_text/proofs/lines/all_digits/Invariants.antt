use Rattle.std.proofs.Common.{◌≡◌, drop}
use Rattle.std.specs.List.{list_all}
use Rattle.text_core.specs.Bytes.{is_digit}
use Rattle.smv_trace_text.proofs.lines.all_digits.Given as goal

abbrev pub invariant-loop-b : goal.invariant-loop-b
invariant-loop-b l = list_all is_digit (drop l.b-index l.digits) ≡ list_all is_digit l.digits
