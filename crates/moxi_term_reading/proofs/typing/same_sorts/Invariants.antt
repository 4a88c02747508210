use Rattle.std.proofs.Common.{◌≡◌, drop}
use Rattle.moxi_terms.specs.Sorts.{same_sorts}
use Rattle.moxi_terms.specs.Tree.{sorts_of}
use Rattle.moxi_term_reading.proofs.typing.same_sorts.Given as goal

abbrev pub invariant-loop-i : goal.invariant-loop-i
invariant-loop-i l = same_sorts (sorts_of (drop l.i l.parameters)) (drop l.i l.sorts) ≡ same_sorts (sorts_of l.parameters) l.sorts
