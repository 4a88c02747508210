use Rattle.std.proofs.Common.{◌≡◌, ◌-◌, ◌≤◌, length, true, take}
use Rattle.std.specs.List.{list_all}
use Rattle.digraph.specs.Searching.{is_done}
use Rattle.digraph.proofs.search.front.Given as goal

abbrev pub invariant-loop-to : goal.invariant-loop-to
invariant-loop-to l = record {
  low : l.to ≤ length l.row;
  done : list_all (is_done l.marks) (take l.to l.row) ≡ true;
}

abbrev pub decreases-loop-to : goal.decreases-loop-to
decreases-loop-to l = length l.row - l.to
