-- Sorts one behind the other.
use Rattle.std.proofs.Common.{◌≡◌, ◌≢◌, ℕ, suc, ◌+◌, ◌<◌, ◌≤◌, ◌&&◌, Bool, true, false, List, [], ◌∷◌, drop, length, None, slice_index_or, refl, sym, ap, ◌∙◌, arith}
use Rattle.std.proofs.lemmas.List.{drop_more, drop_all}
use Rattle.moxi_terms.specs.declared.data.Sort.{Sort}
use Rattle.moxi_terms.specs.declared.term.Variable.{Variable}
use Rattle.moxi_terms.specs.Sorts.{same_sort, same_sorts, common}
use Rattle.moxi_terms.specs.Tree.{sorts_of}

pub common_none : (ss : List Sort) → length ss ≡ 0 → common ss ≡ None
common_none [] h = refl
common_none (s ∷ ss) h = absurd (omega arith)

longs : (vs : List Variable) (ss : List Sort) → length vs ≢ length ss → same_sorts (sorts_of vs) ss ≡ false
longs [] [] h = absurd (h refl)
longs [] (s ∷ ss) h = refl
longs (v ∷ vs) [] h = refl
longs (v ∷ vs) (s ∷ ss) h = both (same_sort v.sort s) (longs vs ss (λ e. h (ap suc e)))
  where
    both : (b : Bool) → same_sorts (sorts_of vs) ss ≡ false → (b && same_sorts (sorts_of vs) ss) ≡ false
    both true e = e
    both false e = refl

pub other_length : (vs : List Variable) (ss : List Sort) → length vs ≢ length ss → same_sorts (sorts_of vs) ss ≡ false
other_length = longs

pub sorts_front : (vs : List Variable) (ss : List Sort) (i n : ℕ) (v : Variable) (s : Sort) → n ≡ length vs → n ≡ length ss → i < n → v ≡ slice_index_or vs i v → s ≡ slice_index_or ss i s
    → same_sorts (sorts_of (drop i vs)) (drop i ss) ≡ (same_sort v.sort s && same_sorts (sorts_of (drop (i + 1) vs)) (drop (i + 1) ss))
sorts_front vs ss i n v s e f l a b =
    let p : drop i vs ≡ v ∷ drop (i + 1) vs = drop_more vs i v (omega arith) ∙ ap (λ y. y ∷ drop (i + 1) vs) (sym a) in
    let q : drop i ss ≡ s ∷ drop (i + 1) ss = drop_more ss i s (omega arith) ∙ ap (λ y. y ∷ drop (i + 1) ss) (sym b) in
    ap (λ xs. same_sorts (sorts_of xs) (drop i ss)) p ∙ ap (same_sorts (sorts_of (v ∷ drop (i + 1) vs))) q

pub sorts_end : (vs : List Variable) (ss : List Sort) (i n : ℕ) → n ≡ length vs → n ≡ length ss → n ≤ i → same_sorts (sorts_of (drop i vs)) (drop i ss) ≡ true
sorts_end vs ss i n e f l = ap (λ xs. same_sorts (sorts_of xs) (drop i ss)) (drop_all i vs (omega arith)) ∙ ap (same_sorts []) (drop_all i ss (omega arith))
