-- A search that goes along edges as deep as it can.
use Rattle.std.specs.Prelude.{◌≡◌, ℕ, ◌+◌, ◌<◌, ◌≤◌, Bool, true, false, ◌&&◌, nat_lt, List, [], ◌∷◌, ◌++◌, length, take, slice_index_or, slice_set as set, sum_by, Option, Some, None}
use Rattle.std.specs.List.{list_all}
use Rattle.digraph.specs.declared.mark.Mark.{Mark}
use Rattle.digraph.specs.declared.mark.Mark.TheVariants.{New, Open, Done}
use Rattle.digraph.specs.declared.search.End.{End}
use Rattle.digraph.specs.declared.search.Step.{Step}
use Rattle.digraph.specs.declared.search.Step.TheVariants.{Ended, Went, Returned}
use Rattle.digraph.specs.Graph.{NodeLists, next_of, is_in, are_distinct, falls_from, leads}

abbrev pub is_done_mark : Mark → Bool
is_done_mark Done = true
is_done_mark m = false

abbrev pub is_open_mark : Mark → Bool
is_open_mark Open = true
is_open_mark m = false

abbrev pub is_done : List Mark → ℕ → Bool
is_done marks k = is_done_mark (slice_index_or marks k New)

abbrev pub is_open : List Mark → ℕ → Bool
is_open marks k = is_open_mark (slice_index_or marks k New)

-- the first so many edges of a node, as counted for it, lead to what is done
abbrev pub fronts_done : NodeLists → List Mark → ℕ → ℕ → Bool
fronts_done g marks k n = list_all (is_done marks) (take n (next_of g k))

-- each node leads to the next
abbrev pub is_path : NodeLists → List ℕ → Bool
is_path g [] = true
is_path g (k ∷ []) = true
is_path g (k ∷ m ∷ ks) = is_in (next_of g k) m && is_path g (m ∷ ks)

-- the marks, how many edges of each node were gone, the path from the root on, and the nodes that are done, in order
pub record State : Type 0 where
  pub marks : List Mark
  pub gone : List ℕ
  pub path : List ℕ
  pub order : List ℕ

-- the order has the nodes that are done, and the path those that are open, each once
pub record IsSearch (g : NodeLists) (s : State) : Type 0 where
  pub marked : length s.marks ≡ length g
  pub counted : length s.gone ≡ length g
  pub path_within : list_all (λ k. nat_lt k (length g)) s.path ≡ true
  pub order_within : list_all (λ k. nat_lt k (length g)) s.order ≡ true
  pub low : (k : ℕ) → slice_index_or s.gone k 0 ≤ length (next_of g k)
  pub fronts : (k : ℕ) → fronts_done g s.marks k (slice_index_or s.gone k 0) ≡ true
  pub done : (k : ℕ) → is_done s.marks k ≡ true → is_in s.order k ≡ true
  pub opens : (k : ℕ) → is_open s.marks k ≡ true → is_in s.path k ≡ true
  pub order_done : (k : ℕ) → is_in s.order k ≡ true → is_done s.marks k ≡ true
  pub path_open : (k : ℕ) → is_in s.path k ≡ true → is_open s.marks k ≡ true
  pub order_once : are_distinct s.order ≡ true
  pub path_once : are_distinct s.path ≡ true
  pub falls : falls_from g [] s.order ≡ true
  pub path : is_path g s.path ≡ true

-- some node leads to itself
abbrev pub SomeReturns : NodeLists → Type 0
SomeReturns g = (n : ℕ) × (k : ℕ) × (k < length g) × (leads g n k k ≡ true)

abbrev pub is_new_mark : Mark → Bool
is_new_mark New = true
is_new_mark m = false

abbrev pub is_new : List Mark → ℕ → Bool
is_new marks k = is_new_mark (slice_index_or marks k New)

-- a node is added to the path
abbrev pub opened : State → ℕ → State
opened s k = record s { marks = set s.marks k Open; path = s.path ++ k ∷ [] }

-- a node that was taken off the path is done
abbrev pub closed : State → ℕ → State
closed s k = record s { marks = set s.marks k Done; order = s.order ++ k ∷ [] }

-- a node is put back on the path, and the next one behind it
abbrev pub turned : State → ℕ → ℕ → State
turned s k next = opened (record s { path = s.path ++ k ∷ [] }) next

-- the end of the path is taken off, and so many of its edges lead to what is done
abbrev pub taken : State → List ℕ → ℕ → ℕ → State
taken s ks k n = record s { path = ks; gone = set s.gone k n }

pub record IsEnd (g : NodeLists) (s t : State) (end : End) : Type 0 where
  pub ends : s.path ≡ t.path ++ end.node ∷ []
  pub takes : t ≡ taken s t.path end.node end.edge
  pub there : end.node < length g
  pub low : end.edge ≤ length (next_of g end.node)
  pub done : fronts_done g s.marks end.node end.edge ≡ true
  pub stops : end.edge < length (next_of g end.node) → is_done s.marks (slice_index_or (next_of g end.node) end.edge 0) ≡ false

abbrev pub IsTaken : NodeLists → State → State → Option End → Type 0
IsTaken g s t None = (s.path ≡ []) × (t ≡ s)
IsTaken g s t (Some end) = IsEnd g s t end

-- a new node weighs 2, a node of the path 1
abbrev pub mark_weight : Mark → ℕ
mark_weight New = 2
mark_weight m = 0

abbrev pub weight : State → ℕ
weight s = sum_by mark_weight s.marks + length s.path

-- what was met stays so
abbrev pub Keeps : State → State → Type 0
Keeps s t = (k : ℕ) → is_new t.marks k ≡ true → is_new s.marks k ≡ true

abbrev pub IsStep : NodeLists → State → State → Step → Type 0
IsStep g s t Ended = (s.path ≡ []) × (t ≡ s)
IsStep g s t Went = IsSearch g t × (weight t < weight s) × Keeps s t
IsStep g s t Returned = SomeReturns g

abbrev pub Finishes : NodeLists → ℕ → State → State → Bool → Type 0
Finishes g root s t true = IsSearch g t × (t.path ≡ []) × (is_new t.marks root ≡ false) × Keeps s t
Finishes g root s t false = SomeReturns g
