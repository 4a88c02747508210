use Rattle.std.proofs.Common.{◌≡◌, drop}
use Rattle.std.specs.List.{list_any}
use Rattle.moxi_terms.specs.Operators.{same}
use Rattle.moxi_terms.proofs.operate.is_among.Given as goal

abbrev pub invariant-loop-w : goal.invariant-loop-w
invariant-loop-w l = list_any (same l.v) (drop l.w-index l.vs) ≡ list_any (same l.v) l.vs
