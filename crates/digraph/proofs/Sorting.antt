-- What a search that has met each node comes to.
use Rattle.std.proofs.Common.{◌≡◌, ℕ, zero, suc, ◌<◌, ◌≤◌, true, false, nat_lt, List, [], ◌∷◌, ◌++◌, length, refl, sym, ap, subst, inl, inr, rules, append_assoc}
use Rattle.std.specs.Prelude.{slice_index_or}
use Rattle.std.specs.List.{list_all}
use Rattle.digraph.specs.declared.mark.Mark.{Mark}
use Rattle.digraph.specs.declared.mark.Mark.TheVariants.{New, Open, Done}
use Rattle.digraph.specs.Graph.{NodeLists, next_of, is_in, leads, falls_from, IsSorted, NeverReturns}
use Rattle.digraph.specs.Searching.{State, IsSearch, is_open, is_new, is_done_mark, is_open_mark, is_new_mark}
use Rattle.std.proofs.Math.ListN.{get_or-eq_default}
use Rattle.digraph.proofs.Laws.{ltb_lt}
use Rattle.digraph.proofs.Lists.{and_left, and_right, all_more, in_front, in_cases, not_both}
use Rattle.digraph.proofs.Visits.{closed_never, first_edge, no_edges}
use Rattle.text_core.proofs.Truths.{bool_cases}

-- neither new nor on the path
known_done : (m : Mark) → is_new_mark m ≡ false → is_open_mark m ≡ false → is_done_mark m ≡ true
known_done New h i = cc
known_done Open h i = cc
known_done Done h i = refl

pub sorts : (g : NodeLists) (s : State) → IsSearch g s → s.path ≡ [] → ((k : ℕ) → k < length g → is_new s.marks k ≡ false) → IsSorted g s.order
sorts g s h e met = record {
  within = h.order_within;
  whole = λ k l. elim (bool_cases (is_open s.marks k)) [
    | inl o ↦ let i : is_in [] k ≡ true = subst (λ (p : List ℕ). is_in p k ≡ true) e (h.opens k o) in cc
    | inr o ↦ h.done k (known_done (slice_index_or s.marks k New) (met k l) o)
  ];
  once = h.order_once;
  falls = h.falls;
}

-- a closed list whose nodes don't lead to themselves
record IsFree (g : NodeLists) (done : List ℕ) : Type 0 where
  closed : (k : ℕ) → is_in done k ≡ true → list_all (is_in done) (next_of g k) ≡ true
  free : (n k : ℕ) → is_in done k ≡ true → leads g n k k ≡ false

free_end : (g : NodeLists) (done : List ℕ) (k : ℕ) → IsFree g done → list_all (is_in done) (next_of g k) ≡ true → IsFree g (done ++ k ∷ [])
free_end g done k h all = record {
  closed = λ j i. all_more (is_in done) (is_in (done ++ k ∷ [])) (λ x m. in_front done k x m) (next_of g j) (elim (in_cases done k j i) [
    | inl m ↦ h.closed j m
    | inr m ↦ subst (λ (x : ℕ). list_all (is_in done) (next_of g x) ≡ true) m all
  ]);
  free = λ n j i. elim (bool_cases (is_in done j)) [
    | inl m ↦ h.free n j m
    | inr m ↦ elim (in_cases done k j i) [
      | inl x ↦ absurd (not_both (is_in done j) x m)
      | inr x ↦ closed_never g done j h.closed m n j (subst (λ (y : ℕ). list_all (is_in done) (next_of g y) ≡ true) x all)
    ]
  ];
}

append_none : (xs : List ℕ) → xs ++ [] ≡ xs
append_none [] = refl
append_none (x ∷ xs) = ap (λ ys. x ∷ ys) (append_none xs)

free_all : (g : NodeLists) (done ks : List ℕ) → IsFree g done → falls_from g done ks ≡ true → IsFree g (done ++ ks)
free_all g done [] h f = subst (IsFree g) (sym (append_none done)) h
free_all g done (k ∷ ks) h f =
    subst (IsFree g) (append_assoc done (k ∷ []) ks)
    (free_all g (done ++ k ∷ []) ks (free_end g done k h (and_left (list_all (is_in done) (next_of g k)) (falls_from g (done ++ k ∷ []) ks) f)) (and_right (list_all (is_in done) (next_of g k)) (falls_from g (done ++ k ∷ []) ks) f))

free_none : (g : NodeLists) → IsFree g []
free_none g = record { closed = λ k i. cc; free = λ n k i. cc }

not_below : (a b : ℕ) → nat_lt a b ≡ false → b ≤ a
not_below a b h = search rules

nowhere : (g : NodeLists) (n k : ℕ) → next_of g k ≡ [] → leads g n k k ≡ true → ⊥
nowhere g zero k e t = no_edges g k k t
nowhere g (suc n) k e t = let f = first_edge g n k k t in let i : is_in [] f.0 ≡ true = subst (λ (xs : List ℕ). is_in xs f.0 ≡ true) e f.1 in cc

-- what is no node leads nowhere
outside : (g : NodeLists) (n k : ℕ) → next_of g k ≡ [] → leads g n k k ≡ false
outside g n k e = elim (bool_cases (leads g n k k)) [ inl t ↦ absurd (nowhere g n k e t) | inr f ↦ f ]

pub never_returns : (g : NodeLists) (order : List ℕ) → IsSorted g order → NeverReturns g
never_returns g order h n k =
    elim (bool_cases (nat_lt k (length g))) [
      | inl t ↦ (free_all g [] order (free_none g) h.falls).free n k (h.whole k (ltb_lt k (length g) t))
      | inr f ↦ outside g n k (get_or-eq_default g [] (not_below k (length g) f))
    ]
