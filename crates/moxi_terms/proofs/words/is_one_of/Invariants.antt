use Rattle.std.proofs.Common.{◌≡◌, map, drop}
use Rattle.moxi_terms.specs.Words.{is_one_of}
use Rattle.moxi_terms.proofs.words.is_one_of.Given as goal
use Rattle.text_core.specs.Bytes.{bytes_behind}

abbrev pub invariant-loop-word : goal.invariant-loop-word
invariant-loop-word l = is_one_of (map bytes_behind (drop l.word-index l.words)) l.name ≡ is_one_of (map bytes_behind l.words) l.name
