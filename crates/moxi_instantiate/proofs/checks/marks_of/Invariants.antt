use Rattle.std.proofs.Common.{◌≡◌, take, length}
use Rattle.moxi_instantiate.specs.CheckCounts.{AreMarked, all_numbers}
use Rattle.moxi_instantiate.proofs.checks.marks_of.Given as goal

abbrev pub invariant-loop-query : goal.invariant-loop-query
invariant-loop-query l = record {
  long : length l.marks.items ≡ l.count;
  marked : AreMarked l.marks.items (all_numbers l.kind (take l.query-index l.queries));
}
