use Rattle.std.proofs.Common.{◌≡◌, drop}
use Rattle.std.specs.List.{list_all}
use Rattle.moxi_terms.specs.Operators.{truth_of}
use Rattle.moxi_terms.proofs.operate.are_all_true.Given as goal

abbrev pub invariant-loop-v : goal.invariant-loop-v
invariant-loop-v l = list_all truth_of (drop l.v-index l.vs) ≡ list_all truth_of l.vs
