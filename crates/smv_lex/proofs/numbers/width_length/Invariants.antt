use Rattle.std.proofs.Common.{◌≡◌, ◌+◌, drop}
use Rattle.smv_text.specs.Bytes.{front_length}
use Rattle.smv_lex.specs.Reading.{is_unmarked}
use Rattle.smv_lex.proofs.numbers.width_length.Given as goal

abbrev pub invariant-loop-i : goal.invariant-loop-i
invariant-loop-i l = l.i + front_length is_unmarked (drop l.i l.text) ≡ front_length is_unmarked l.text
