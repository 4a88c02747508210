use Rattle.std.proofs.Common.{◌≡◌, drop, map}
use Rattle.smv_text.specs.Bytes.{look_up}
use Rattle.smv_lex.specs.Reading.{row}
use Rattle.smv_lex.proofs.words.look_up.Given as goal

abbrev pub invariant-loop-bytes : goal.invariant-loop-bytes
invariant-loop-bytes l = look_up l.word (map row (drop l.bytes-index l.keywords)) ≡ look_up l.word (map row l.keywords)
