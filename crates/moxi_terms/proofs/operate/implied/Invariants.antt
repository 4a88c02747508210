use Rattle.std.proofs.Common.{◌≡◌, drop}
use Rattle.moxi_terms.specs.Operators.{implied}
use Rattle.moxi_terms.proofs.operate.implied.Given as goal

abbrev pub invariant-loop-v : goal.invariant-loop-v
invariant-loop-v l = implied l.before (drop l.v-index l.rest) ≡ implied l.first l.rest
