use Rattle.std.proofs.Common.{◌≡◌, drop, map}
use Rattle.btor_text.specs.Seen.{entry, look_up}
use Rattle.btor_text.proofs.word.look_up.Given as goal

abbrev pub invariant-loop-bytes : goal.invariant-loop-bytes
invariant-loop-bytes l = look_up l.text (map entry (drop l.bytes-index l.table)) ≡ look_up l.text (map entry l.table)
