-- Nodes in lists of nodes, and where ranks fall no node leads to one of a higher rank.
use Rattle.std.proofs.Common.{◌≡◌, ℕ, zero, suc, ◌<◌, ◌≤◌, true, false, ◌==◌, nat_lt, nat_le as leb, List, [], ◌∷◌, length, take, refl, sym, subst, inl, inr, arith}
use Rattle.std.specs.Prelude.{slice_index_or}
use Rattle.std.specs.List.{list_all}
use Rattle.std.proofs.lemmas.Bool.{or_cases}
use Rattle.std.proofs.lemmas.Bool.Decides.{nat_tests}
use Rattle.digraph.specs.Graph.{NodeLists, next_of, is_in, leads}
use Rattle.digraph.proofs.Lists.{all_get, and_both, and_left, and_right, same}
use Rattle.digraph.proofs.Laws.{ltb_lt, read_is, row_is}
use Rattle.digraph.proofs.Visits.{first_edge, no_edges}
use Rattle.digraph.specs.Ranks.{Falls, rank_of}
use Rattle.text_core.proofs.Truths.{bool_cases}

pub node_there : (n : ℕ) (xs : List ℕ) (i d : ℕ) → list_all (λ k. nat_lt k n) xs ≡ true → i < length xs → slice_index_or xs i d < n
node_there n xs i d h l = ltb_lt (slice_index_or xs i d) n (all_get (λ k. nat_lt k n) xs i d l h)

pub all_taken : (n m : ℕ) (xs : List ℕ) → list_all (λ k. nat_lt k n) xs ≡ true → list_all (λ k. nat_lt k n) (take m xs) ≡ true
all_taken n zero xs h = refl
all_taken n (suc m) [] h = refl
all_taken n (suc m) (x ∷ xs) h = and_both (nat_lt x n) (list_all (λ k. nat_lt k n) (take m xs)) (and_left (nat_lt x n) (list_all (λ k. nat_lt k n) xs) h) (all_taken n m xs (and_right (nat_lt x n) (list_all (λ k. nat_lt k n) xs) h))

-- no node leads to one of a higher rank
falls_along : (g : NodeLists) (ranks : List ℕ) → Falls g ranks → (n k m : ℕ) → leads g n k m ≡ true → rank_of ranks m ≤ rank_of ranks k
falls_along g ranks f zero k m h = absurd (no_edges g k m h)
falls_along g ranks f (suc n) k m h =
    let e = first_edge g n k m h in
    let one = f k e.0 e.1 in
    elim (or_cases (e.0 == m) (leads g n e.0 m) e.2) [
      | inl s ↦ subst (λ (j : ℕ). rank_of ranks j ≤ rank_of ranks k) (same e.0 m s) one
      | inr t ↦ let more = falls_along g ranks f n e.0 m t in omega (arith, one, more)
    ]

-- a node whose edges lead to lower ranks alone is never reached again
falls_off : (g : NodeLists) (ranks : List ℕ) (k high n : ℕ) → Falls g ranks → ((m : ℕ) → is_in (next_of g k) m ≡ true → rank_of ranks m ≤ high) → high < rank_of ranks k → leads g n k k ≡ true → ⊥
falls_off g ranks k high zero f below l h = no_edges g k k h
falls_off g ranks k high (suc n) f below l h =
    let e = first_edge g n k k h in
    let one = below e.0 e.1 in
    elim (or_cases (e.0 == k) (leads g n e.0 k) e.2) [
      | inl s ↦ let back : rank_of ranks k ≤ high = subst (λ (j : ℕ). rank_of ranks j ≤ high) (same e.0 k s) one in absurd (omega (arith, back, l))
      | inr t ↦ let more = falls_along g ranks f n e.0 k t in absurd (omega (arith, one, more, l))
    ]

pub never_back : (g : NodeLists) (ranks : List ℕ) (k high n : ℕ) → Falls g ranks → ((m : ℕ) → is_in (next_of g k) m ≡ true → rank_of ranks m ≤ high) → high < rank_of ranks k → leads g n k k ≡ false
never_back g ranks k high n f below l = elim (bool_cases (leads g n k k)) [ inl t ↦ absurd (falls_off g ranks k high n f below l t) | inr s ↦ s ]

-- the same of what the code reads
pub may_not : (g : NodeLists) (items ranks row : List ℕ) (k rank high n : ℕ) → Falls g items → length items ≡ length g → k < length g → rank ≡ slice_index_or items k rank → ranks ≡ items → row ≡ slice_index_or g k row
    → ((m : ℕ) → is_in row m ≡ true → rank_of ranks m ≤ high) → leb rank high ≡ false → leads g n k k ≡ false
may_not g items ranks row k rank high n f long l e s r below over =
    let same_row = row_is g k row l r in
    let here : rank_of items k ≡ rank = read_is items k rank 0 (omega (arith, long, l)) e in
    let above : high < rank = grind (arith, nat_tests) in
    never_back g items k high n f
    (λ m i. subst (λ (xs : List ℕ). rank_of xs m ≤ high) s (below m (subst (λ (xs : List ℕ). is_in xs m ≡ true) same_row i)))
    (subst (λ (x : ℕ). high < x) (sym here) above)
