use Rattle.std.proofs.Common.{◌≡◌, ◌++◌, take}
use Rattle.moxi_terms.specs.Names.{numbered}
use Rattle.moxi_terms.proofs.scope.number_constants.Given as goal

abbrev pub invariant-loop-i : goal.invariant-loop-i
invariant-loop-i l = l.numbers.items ≡ take l.before l.fn.numbers.items ++ numbered l.n 0 (take l.i l.constants)
