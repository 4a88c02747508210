use Rattle.std.proofs.Common.{◌≡◌, drop}
use Rattle.std.specs.List.{list_any}
use Rattle.moxi_terms.specs.Operators.{truth_of}
use Rattle.moxi_terms.proofs.operate.is_any_true.Given as goal

abbrev pub invariant-loop-v : goal.invariant-loop-v
invariant-loop-v l = list_any truth_of (drop l.v-index l.vs) ≡ list_any truth_of l.vs
