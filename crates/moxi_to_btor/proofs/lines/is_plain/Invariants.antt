use Rattle.std.proofs.Common.{◌≡◌, map, drop}
use Rattle.moxi_lines.specs.Lines.{symbol_byte}
use Rattle.moxi_to_btor.proofs.lines.is_plain.Given as goal

-- what is left decides
abbrev pub invariant-loop-byte : goal.invariant-loop-byte
invariant-loop-byte l = map symbol_byte (drop l.byte-index l.name) ≡ drop l.byte-index l.name → map symbol_byte l.name ≡ l.name
