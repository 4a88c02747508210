-- What a node leads to, met step by step.
use Rattle.std.specs.Prelude.{◌≡◌, ℕ, ◌+◌, ◌<◌, ◌≤◌, Bool, true, false, not, ◌==◌, nat_lt, List, length, slice_index_or, slice_set as set, sum_by, if◌then◌else◌, [], ◌∷◌, ◌++◌}
use Rattle.std.specs.List.{list_all}
use Rattle.digraph.specs.Graph.{NodeLists, next_of, is_in, leads}

-- which nodes were met, and these in the order of their meeting
pub record Visited : Type 0 where
  pub met : List Bool
  pub queue : List ℕ

abbrev pub one : Bool → ℕ
one b = if b then 1 else 0

-- what was met from the start on; node number p of the queue is p + 1 edges away at most, and none is the start
pub record IsVisit (g : NodeLists) (start : ℕ) (v : Visited) : Type 0 where
  pub marked : length v.met ≡ length g
  pub within : list_all (λ k. nat_lt k (length g)) v.queue ≡ true
  pub counted : sum_by one v.met ≡ length v.queue
  pub found : (k : ℕ) → slice_index_or v.met k false ≡ true → is_in v.queue k ≡ true
  pub others : list_all (λ k. not (k == start)) v.queue ≡ true
  pub near : (p : ℕ) → p < length v.queue → leads g (p + 1) start (slice_index_or v.queue p 0) ≡ true

-- the nodes that were met stay where they are
pub record Extends (v w : Visited) : Type 0 where
  pub longer : length v.queue ≤ length w.queue
  pub kept : (p : ℕ) → p < length v.queue → slice_index_or w.queue p 0 ≡ slice_index_or v.queue p 0

-- all to which a node leads by an edge were met
pub record IsSpread (g : NodeLists) (start k : ℕ) (v w : Visited) : Type 0 where
  pub visit : IsVisit g start w
  pub all : list_all (is_in w.queue) (next_of g k) ≡ true
  pub extends : Extends v w

-- whether the start is among the nodes to which a node has an edge
abbrev pub Spreads : NodeLists → ℕ → ℕ → Visited → Visited → Bool → Type 0
Spreads g start k v w true = is_in (next_of g k) start ≡ true
Spreads g start k v w false = IsSpread g start k v w

-- whether a node leads to itself
abbrev pub Returning : NodeLists → ℕ → Bool → Type 0
Returning g k true = (n : ℕ) → length g < n → leads g n k k ≡ true
Returning g k false = (n : ℕ) → leads g n k k ≡ false

-- with one node more, where it wasn't met
abbrev pub added : Visited → ℕ → Visited
added v k = if slice_index_or v.met k false then v else record { met = set v.met k true; queue = v.queue ++ k ∷ [] }
