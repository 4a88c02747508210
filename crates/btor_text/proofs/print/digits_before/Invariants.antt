use Rattle.std.proofs.Common.{◌≡◌, ◌+◌, ◌≤◌, ◌++◌, length, drop}
use Rattle.std.specs.Fmt.{decimal}
use Rattle.btor_text.proofs.print.digits_before.Given as goal

-- the digits that stand end the number
abbrev pub invariant-loop-rest : goal.invariant-loop-rest
invariant-loop-rest l = record {
  long : length l.bytes ≡ 64;
  whole : decimal l.rest ++ drop l.start l.bytes ≡ decimal l.n ++ drop l.end l.initial.bytes;
  room : length (decimal l.rest) + l.end ≤ l.start + 10;
  within : l.start ≤ l.end;
}

abbrev pub decreases-loop-rest : goal.decreases-loop-rest
decreases-loop-rest l = l.rest
