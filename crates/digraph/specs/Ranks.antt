-- Ranks of the nodes of a graph.
use Rattle.std.specs.Prelude.{◌≡◌, ℕ, ◌≤◌, true, List, length, slice_index_or}
use Rattle.digraph.specs.Graph.{NodeLists, is_in, next_of}
use Rattle.digraph.specs.declared.ranks.Ranks.{Ranks}

abbrev pub rank_of : List ℕ → ℕ → ℕ
rank_of ranks k = slice_index_or ranks k 0

-- no edge leads to a higher rank
abbrev pub Falls : NodeLists → List ℕ → Type 0
Falls g ranks = (k m : ℕ) → is_in (next_of g k) m ≡ true → rank_of ranks m ≤ rank_of ranks k

-- each node has a rank, and where the ranks passed their test, no edge leads to a higher one
pub record IsRanking (g : NodeLists) (r : Ranks) : Type 0 where
  pub long : length r.ranks.items ≡ length g
  pub falls : r.falls ≡ true → Falls g r.ranks.items
