use Rattle.std.proofs.Common.{◌≡◌, ◌+◌, drop}
use Rattle.smv_text.specs.Bytes.{front_length}
use Rattle.smv_text.specs.Words.{in_run}
use Rattle.smv_lex.proofs.scan.run_length.Given as goal

abbrev pub invariant-loop-i : goal.invariant-loop-i
invariant-loop-i l = l.i + front_length in_run (drop l.i l.text) ≡ front_length in_run l.text
