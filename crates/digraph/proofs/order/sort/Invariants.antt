use Rattle.std.proofs.Common.{◌≡◌, ℕ, ◌<◌, [], false}
use Rattle.digraph.specs.Searching.{IsSearch, is_new}
use Rattle.digraph.proofs.order.sort.Given as goal

abbrev pub invariant-loop-root : goal.invariant-loop-root
invariant-loop-root l = record {
  search : IsSearch l.graph l.search;
  empty : l.search.path ≡ [];
  met : (k : ℕ) → k < l.root → is_new l.search.marks k ≡ false;
}
