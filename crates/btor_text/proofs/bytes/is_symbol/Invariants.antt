use Rattle.std.proofs.Common.{◌≡◌, drop}
use Rattle.btor_tree.specs.Parts.{all_symbol}
use Rattle.btor_text.proofs.bytes.is_symbol.Given as goal

abbrev pub invariant-loop-b : goal.invariant-loop-b
invariant-loop-b l = all_symbol (drop l.b-index l.bytes) ≡ all_symbol l.bytes
