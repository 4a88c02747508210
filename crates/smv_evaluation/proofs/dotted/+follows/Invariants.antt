use Rattle.std.proofs.Common.{length}
use Rattle.smv_evaluation.proofs.dotted.+follows.Given as goal

abbrev pub decreases-follows : goal.decreases-follows
decreases-follows l = length l.text.now
