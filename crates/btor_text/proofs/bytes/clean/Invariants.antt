use Rattle.std.proofs.Common.{◌≡◌, ◌++◌, drop}
use Rattle.btor_tree.specs.Parts.{clean}
use Rattle.btor_text.proofs.bytes.clean.Given as goal

abbrev pub invariant-loop-b : goal.invariant-loop-b
invariant-loop-b l = l.buffer.items ++ clean (drop l.b-index l.line) ≡ clean l.line
