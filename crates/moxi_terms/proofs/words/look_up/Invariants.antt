use Rattle.std.proofs.Common.{◌≡◌, map, drop}
use Rattle.moxi_terms.specs.Words.{row_named}
use Rattle.moxi_terms.specs.Rows.{row}
use Rattle.moxi_terms.proofs.words.look_up.Given as goal

abbrev pub invariant-loop-word : goal.invariant-loop-word
invariant-loop-word l = row_named (map row (drop l.word-index l.rows)) l.name ≡ row_named (map row l.rows) l.name
