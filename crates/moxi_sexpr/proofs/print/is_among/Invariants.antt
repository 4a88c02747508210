use Rattle.std.proofs.Common.{◌≡◌, map, drop}
use Rattle.moxi_sexpr.specs.Printing.{is_among}
use Rattle.moxi_sexpr.proofs.print.is_among.Given as goal
use Rattle.text_core.specs.Bytes.{bytes_behind}

abbrev pub invariant-loop-word : goal.invariant-loop-word
invariant-loop-word l = is_among l.name (map bytes_behind (drop l.word-index l.words)) ≡ is_among l.name (map bytes_behind l.words)
