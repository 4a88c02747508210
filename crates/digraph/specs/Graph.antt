-- Directed graphs: node k leads to the nodes of the k-th list.
use Rattle.std.specs.Prelude.{◌≡◌, ℕ, zero, suc, ◌<◌, Bool, true, false, not, ◌||◌, ◌&&◌, ◌==◌, nat_lt, List, [], ◌∷◌, ◌++◌, length, slice_index_or}
use Rattle.std.specs.List.{list_any, list_all}

abbrev pub NodeLists : Type 0
NodeLists = List (List ℕ)

-- the nodes to which a node has an edge
abbrev pub next_of : NodeLists → ℕ → List ℕ
next_of g k = slice_index_or g k []

-- each edge ends at a node
abbrev pub is_graph : NodeLists → Bool
is_graph g = list_all (λ ends. list_all (λ m. nat_lt m (length g)) ends) g

-- one leads to the other by one or more edges, at most as many as the number tells
unfoldable pub leads : NodeLists → ℕ → ℕ → ℕ → Bool
leads g zero k m = false
leads g (suc n) k m = list_any (λ r. r == m || leads g n r m) (next_of g k)

abbrev pub is_in : List ℕ → ℕ → Bool
is_in xs x = list_any (λ y. y == x) xs

-- no node occurs twice
abbrev pub are_distinct : List ℕ → Bool
are_distinct [] = true
are_distinct (k ∷ ks) = not (is_in ks k) && are_distinct ks

-- behind those that are before, each node is after the nodes to which it leads
abbrev pub falls_from : NodeLists → List ℕ → List ℕ → Bool
falls_from g before [] = true
falls_from g before (k ∷ ks) = list_all (is_in before) (next_of g k) && falls_from g (before ++ k ∷ []) ks

-- an order of the nodes that has each once, and in which each is after those to which it leads
pub record IsSorted (g : NodeLists) (order : List ℕ) : Type 0 where
  pub within : list_all (λ k. nat_lt k (length g)) order ≡ true
  pub whole : (k : ℕ) → k < length g → is_in order k ≡ true
  pub once : are_distinct order ≡ true
  pub falls : falls_from g [] order ≡ true

-- no node leads to itself
abbrev pub NeverReturns : NodeLists → Type 0
NeverReturns g = (n k : ℕ) → leads g n k k ≡ false

-- the first node that leads to itself
pub record IsFirstReturn (g : NodeLists) (k : ℕ) : Type 0 where
  pub within : k < length g
  pub returns : (n : ℕ) → length g < n → leads g n k k ≡ true
  pub first : (n j : ℕ) → j < k → leads g n j j ≡ false
