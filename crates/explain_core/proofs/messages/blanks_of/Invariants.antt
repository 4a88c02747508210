use Rattle.std.proofs.Common.{◌≡◌, take, map, length}
use Rattle.explain_core.specs.Messages.{blank_of}
use Rattle.explain_core.proofs.messages.blanks_of.Given as goal

abbrev pub invariant-loop-i : goal.invariant-loop-i
invariant-loop-i l = record {
  room : length l.blanks ≡ 120;
  front : take l.i l.blanks ≡ map blank_of (take l.i l.front);
}
