use Rattle.std.proofs.Common.{◌≡◌, ◌++◌, length}
use Rattle.moxi_lines.specs.TermLines.{pairs_of}
use Rattle.moxi_to_btor.proofs.chains.pairs_of.Given as goal

abbrev pub invariant-loop-p : goal.invariant-loop-p
invariant-loop-p l = l.pairs.items ++ pairs_of l.rest ≡ pairs_of l.places

abbrev pub decreases-loop-p : goal.decreases-loop-p
decreases-loop-p l = length l.rest
