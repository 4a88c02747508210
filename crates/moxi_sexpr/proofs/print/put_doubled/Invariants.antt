use Rattle.std.proofs.Common.{◌≡◌, ◌++◌, drop}
use Rattle.moxi_sexpr.specs.Atoms.{doubled}
use Rattle.moxi_sexpr.proofs.print.put_doubled.Given as goal

abbrev pub invariant-loop-b : goal.invariant-loop-b
invariant-loop-b l = l.out ++ doubled (drop l.b-index l.bytes) ≡ l.fn.out ++ doubled l.bytes
