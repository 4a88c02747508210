use Rattle.std.proofs.Common.{◌≡◌, ◌++◌}
use Rattle.std.specs.Slice.Iter.{iter_rest}
use Rattle.smv_flatten.proofs.members.copied.Given as goal

abbrev pub invariant-loop-original : goal.invariant-loop-original
invariant-loop-original l = l.copy ++ iter_rest l.original-iterator ≡ l.fn.members
