use Rattle.std.proofs.Common.{◌≡◌, drop}
use Rattle.moxi_terms.specs.Operators.{all_equal}
use Rattle.moxi_terms.proofs.operate.are_all_equal.Given as goal

abbrev pub invariant-loop-v : goal.invariant-loop-v
invariant-loop-v l = all_equal l.before (drop l.v-index l.rest) ≡ all_equal l.first l.rest
