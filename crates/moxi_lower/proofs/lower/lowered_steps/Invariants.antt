use Rattle.std.proofs.Common.{◌≡◌, ◌++◌, length, map}
use Rattle.std.specs.List.{AllByRecursion}
use Rattle.std.specs.Slice.Iter.{iter_rest}
use Rattle.moxi_terms.specs.Sorts.{Fit}
use Rattle.moxi_terms.specs.Tree.{sorts_of}
use Rattle.moxi_lower.specs.Lowered.{lowered_step}
use Rattle.moxi_lower.proofs.lower.lowered_steps.Given as goal

abbrev pub invariant-loop-step : goal.invariant-loop-step
invariant-loop-step l = record {
  fit : AllByRecursion (Fit l.scope.enumerations (sorts_of l.variables)) (iter_rest l.step-iterator);
  frames :
      l.frames ++ map (lowered_step l.scope.enumerations (length l.variables)) (iter_rest l.step-iterator)
      ≡ map (lowered_step l.scope.enumerations (length l.variables)) l.trace;
}
