use Rattle.std.proofs.Common.{◌≡◌, ◌++◌, drop}
use Rattle.moxi_lines.specs.TermLines.{neighbours}
use Rattle.moxi_to_btor.proofs.chains.neighbours.Given as goal

abbrev pub invariant-loop-p : goal.invariant-loop-p
invariant-loop-p l = l.pairs.items ++ neighbours l.before (drop l.p-index l.rest) ≡ neighbours l.first l.rest
