use Rattle.std.proofs.Common.{◌≡◌, map, take}
use Rattle.smv_to_moxi.specs.Lifting.{label_of, state_of}
use Rattle.witness_lift.proofs.Runs.{front, steps}
use Rattle.witness_lift.proofs.lift.lift_run.Given as goal

abbrev pub invariant-loop-i : goal.invariant-loop-i
invariant-loop-i l = record {
  states : l.run.states ≡ map (state_of l.chain) (take l.i (steps l.chain l.witness));
  labels : l.run.labels ≡ map (label_of l.chain) (take l.i (front (steps l.chain l.witness)));
}
