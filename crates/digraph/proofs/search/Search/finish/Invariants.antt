use Rattle.std.proofs.Common.{◌≡◌, false}
use Rattle.digraph.specs.Searching.{IsSearch, Keeps, is_new, weight}
use Rattle.digraph.proofs.search.Search.finish.Given as goal

abbrev pub invariant-loop : goal.invariant-loop
invariant-loop l = record {
  search : IsSearch l.graph l.self;
  met : is_new l.self.marks l.root ≡ false;
  keeps : Keeps l.fn.self l.self;
}

abbrev pub decreases-loop : goal.decreases-loop
decreases-loop l = weight l.self
