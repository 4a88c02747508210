use Rattle.std.proofs.Common.{◌≡◌, length}
use Rattle.moxi_terms.specs.Operators.{all_differ}
use Rattle.moxi_terms.proofs.operate.do_all_differ.Given as goal

abbrev pub invariant-loop-v : goal.invariant-loop-v
invariant-loop-v l = all_differ l.rest ≡ all_differ l.vs

abbrev pub decreases-loop-v : goal.decreases-loop-v
decreases-loop-v l = length l.rest
