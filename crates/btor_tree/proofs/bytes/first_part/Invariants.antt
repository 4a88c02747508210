use Rattle.std.proofs.Common.{◌≡◌, length}
use Rattle.btor_tree.specs.Parts.{parts}
use Rattle.btor_tree.proofs.bytes.first_part.Given as goal

abbrev pub invariant-loop-b : goal.invariant-loop-b
invariant-loop-b l = parts l.rest ≡ parts l.line

abbrev pub decreases-loop-b : goal.decreases-loop-b
decreases-loop-b l = length l.rest
