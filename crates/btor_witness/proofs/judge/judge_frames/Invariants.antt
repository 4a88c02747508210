use Rattle.btor_witness.proofs.Judgement.{SoFar}
use Rattle.btor_witness.proofs.judge.judge_frames.Given as goal

abbrev pub invariant-loop-step : goal.invariant-loop-step
invariant-loop-step l = SoFar l.nodes l.witness l.step l.room
