use Rattle.std.proofs.Common.{◌≡◌, drop, false}
use Rattle.moxi_terms.specs.Operators.{parity}
use Rattle.moxi_terms.proofs.operate.parity.Given as goal

abbrev pub invariant-loop-v : goal.invariant-loop-v
invariant-loop-v l = parity l.odd (drop l.v-index l.vs) ≡ parity false l.vs
