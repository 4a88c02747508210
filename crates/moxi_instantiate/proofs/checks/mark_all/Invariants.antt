use Rattle.std.proofs.Common.{◌≡◌, ℕ, List, ◌++◌, take, length}
use Rattle.moxi_instantiate.specs.CheckCounts.{AreMarked}
use Rattle.moxi_instantiate.proofs.checks.mark_all.Given as goal

abbrev pub invariant-loop-number : goal.invariant-loop-number
invariant-loop-number l = record {
  long : length l.marks.items ≡ length l.fn.marks.items;
  marked : (named : List ℕ) → AreMarked l.fn.marks.items named → AreMarked l.marks.items (named ++ take l.number-index l.numbers);
}
