use Rattle.btor_frames.proofs.Handing.{FitSoFar}
use Rattle.btor_frames.proofs.handed.words_fit.Given as goal

abbrev pub invariant-loop-i : goal.invariant-loop-i
invariant-loop-i l = FitSoFar l.nodes l.inputs l.free l.i l.input l.state
