-- The search for components: each number that it keeps is that of a node.
use Rattle.std.specs.Prelude.{◌≡◌, true, nat_lt, length}
use Rattle.std.specs.List.{list_all}
use Rattle.digraph.specs.declared.components.Search.{Search}

pub record IsSearch (s : Search) : Type 0 where
  pub ranked : length s.ranks.items ≡ length s.nodes.items
  pub path : list_all (λ k. nat_lt k (length s.nodes.items)) s.path.items ≡ true
  pub stack : list_all (λ k. nat_lt k (length s.nodes.items)) s.stack.items ≡ true

-- the search stays one of the same nodes
pub record Keeps (s t : Search) : Type 0 where
  pub search : IsSearch t
  pub long : length t.nodes.items ≡ length s.nodes.items
