use Rattle.std.proofs.Common.{◌≡◌, ◌≤◌, length}
use Rattle.digraph.specs.Components.{IsSearch}
use Rattle.digraph.proofs.components.component_ranks.Given as goal

abbrev pub invariant-loop-rank : goal.invariant-loop-rank
invariant-loop-rank l = record {
  search : IsSearch l.search;
  long : length l.search.nodes.items ≡ length l.graph;
  low : l.root ≤ length l.graph;
}
