use Rattle.std.proofs.Common.{◌≡◌}
use Rattle.moxi_lift.specs.Lifted.{lifted_values, values_upto}
use Rattle.moxi_lift.proofs.step.lifted_step.Given as goal

abbrev pub invariant-loop-v : goal.invariant-loop-v
invariant-loop-v l = l.env ≡ values_upto (lifted_values l.scope.enumerations l.variables l.stated) l.v
