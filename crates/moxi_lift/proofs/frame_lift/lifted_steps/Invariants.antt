use Rattle.std.proofs.Common.{◌≡◌, ◌++◌, length, map}
use Rattle.std.specs.List.{AllByRecursion}
use Rattle.std.specs.Slice.Iter.{iter_rest}
use Rattle.btor_witness.specs.declared.witness.Frame.{Frame}
use Rattle.btor_witness.specs.Printing.{IsBelow}
use Rattle.moxi_lift.specs.Lifted.{lifted_step}
use Rattle.moxi_lift.proofs.frame_lift.lifted_steps.Given as goal

abbrev pub invariant-loop-frame : goal.invariant-loop-frame
invariant-loop-frame l = record {
  inputs : AllByRecursion (λ (f : Frame). AllByRecursion (IsBelow (length l.variables)) f.inputs) (iter_rest l.frame-iterator);
  steps :
      l.trace ++ map (λ (f : Frame). lifted_step l.scope.enumerations l.variables f.inputs) (iter_rest l.frame-iterator)
      ≡ map (λ (f : Frame). lifted_step l.scope.enumerations l.variables f.inputs) l.frames;
}
