use Rattle.std.proofs.Common.{length}
use Rattle.smv_evaluation.proofs.dotted.+same_split.Given as goal

abbrev pub decreases-same_split : goal.decreases-same_split
decreases-same_split l = length l.p.now
