use Rattle.std.proofs.Common.{◌≡◌}
use Rattle.moxi_terms.specs.Value.{at}
use Rattle.moxi_lower.specs.Lowered.{codes_upto}
use Rattle.moxi_lower.proofs.lower.lowered_step.Given as goal

abbrev pub invariant-loop-v : goal.invariant-loop-v
invariant-loop-v l = l.inputs ≡ codes_upto l.scope.enumerations (at l.step) l.v
