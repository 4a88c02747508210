use Rattle.std.proofs.Common.{◌≡◌, ◌++◌, drop}
use Rattle.btor_frames.proofs.tables.add_all.Given as goal

abbrev pub invariant-loop-k : goal.invariant-loop-k
invariant-loop-k l = l.args ++ drop l.k l.more ≡ l.initial.args ++ l.more
