-- Chains of the places at which a number stands.
use Rattle.std.proofs.Common.{◌≡◌, ℕ, suc, ◌+◌, ◌-◌, ◌≤◌, ◌<◌, ◌==◌, if◌then◌else◌, get_or, set, true, false, List, ◌∷◌, drop, length, sym, ap, ◌∙◌, subst, arith, inl, inr}
use Rattle.std.proofs.lemmas.Bool.Decides.{eqb_tells}
use Rattle.std.proofs.lemmas.List.{drop_more, get_or_read, get_or-set_same, get_or-set_other, length-set}
use Rattle.smv_script_terms.specs.Chains.{others_before, place_from, AreChained}

others_here : (i n : ℕ) (ns : List ℕ) → n ≡ i → others_before i (n ∷ ns) ≡ 0
others_here i n ns h = ap (λ b. if b then 0 else suc (others_before i ns)) (eqb_is n i h)
  where
    eqb_is : (n i : ℕ) → n ≡ i → (n == i) ≡ true
    eqb_is n i h = elim (eqb_tells n i) [
      | inl q ↦ q.0
      | inr q ↦ absurd (q.1 h)
    ]

others_past : (i n : ℕ) (ns : List ℕ) → (n ≡ i → ⊥) → others_before i (n ∷ ns) ≡ suc (others_before i ns)
others_past i n ns h = ap (λ b. if b then 0 else suc (others_before i ns)) (eqb_not n i h)
  where
    eqb_not : (n i : ℕ) → (n ≡ i → ⊥) → (n == i) ≡ false
    eqb_not n i h = elim (eqb_tells n i) [
      | inl q ↦ absurd (h q.1)
      | inr q ↦ q.0
    ]

-- the number at a place is the one that is sought, or that one stands farther on
place_here : (q i : ℕ) (ns : List ℕ) → q < length ns → get_or ns q 0 ≡ i → place_from q i ns ≡ q
place_here q i ns h e =
    let r : others_before i (drop q ns) ≡ 0 = ap (others_before i) (drop_more ns q 0 h) ∙ others_here i (get_or ns q 0) (drop (q + 1) ns) e in
    omega (arith, r)

place_past : (q i : ℕ) (ns : List ℕ) → q < length ns → (get_or ns q 0 ≡ i → ⊥) → place_from q i ns ≡ place_from (q + 1) i ns
place_past q i ns h e =
    let r : others_before i (drop q ns) ≡ suc (others_before i (drop (q + 1) ns)) = ap (others_before i) (drop_more ns q 0 h) ∙ others_past i (get_or ns q 0) (drop (q + 1) ns) e in
    omega (arith, r)

-- one place more is put in front of its chain
pub chained_more : (ns fs xs : List ℕ) (count j q : ℕ) → j ≡ q + 1 → q < length ns → get_or ns q 0 < count → AreChained ns count j fs xs
    → AreChained ns count q (set fs (get_or ns q 0) q) (set xs q (get_or fs (get_or ns q 0) 0))
chained_more ns fs xs count j q e h k c = record {
  counted = length-set fs (get_or ns q 0) q ∙ c.counted;
  placed = length-set xs q (get_or fs (get_or ns q 0) 0) ∙ c.placed;
  numbered = λ p m. get_or-set_other xs q p (get_or fs (get_or ns q 0) 0) 0 (λ r. absurd (omega (arith, r, m))) ∙ c.numbered p (let r : p < j = omega (arith, m, e) in r);
  first = first_more;
  next = next_more;
}
  where
    first_more : (i : ℕ) → i < count → get_or (set fs (get_or ns q 0) q) i 0 ≡ place_from q i ns
    first_more i m = elim (eqb_tells (get_or ns q 0) i) [
      | inl r ↦ ap (λ n. get_or (set fs n q) i 0) r.1 ∙ get_or-set_same fs i q 0 (let s : i < length fs = omega (arith, m, c.counted) in s) ∙ sym (place_here q i ns h r.1)
      | inr r ↦ get_or-set_other fs (get_or ns q 0) i q 0 (λ s. r.1 (sym s)) ∙ c.first i m ∙ ap (λ n. place_from n i ns) e ∙ sym (place_past q i ns h r.1)
    ]

    next_more : (p : ℕ) → q ≤ p → p < length ns → get_or ns p 0 < count → get_or (set xs q (get_or fs (get_or ns q 0) 0)) p 0 ≡ place_from (p + 1) (get_or ns p 0) ns
    next_more p m l s = elim (eqb_tells q p) [
      | inl r ↦ ap (λ n. get_or (set xs q (get_or fs (get_or ns n 0) 0)) p 0) r.1 ∙ ap (λ n. get_or (set xs n (get_or fs (get_or ns p 0) 0)) p 0) r.1
          ∙ get_or-set_same xs p (get_or fs (get_or ns p 0) 0) 0 (let t : p < length xs = omega (arith, l, c.placed) in t)
          ∙ c.first (get_or ns p 0) s ∙ ap (λ n. place_from n (get_or ns p 0) ns) (e ∙ ap (λ n. n + 1) r.1)
      | inr r ↦ get_or-set_other xs q p (get_or fs (get_or ns q 0) 0) 0 (λ t. r.1 (sym t)) ∙ c.next p (let t : j ≤ p = omega (arith, e, m, r.1) in t) l s
    ]

number_at : (ns fs xs : List ℕ) (count j n : ℕ) → 0 < j → j ≤ length ns → n ≡ get_or xs (j - 1) n → AreChained ns count j fs xs → n ≡ get_or ns (j - 1) 0
number_at ns fs xs count j n some h e c =
    get_or_read xs (j - 1) n (let t : j - 1 < length xs = omega (arith, some, h, c.placed) in t) e 0 ∙ c.numbered (j - 1) (omega (arith, some))

-- the same for what is read at that place, and at its number
pub chained_put : (ns fs xs : List ℕ) (count j n v : ℕ) → 0 < j → j ≤ length ns → n ≡ get_or xs (j - 1) n → n < count → v ≡ get_or fs n v → AreChained ns count j fs xs
    → AreChained ns count (j - 1) (set fs n (j - 1)) (set xs (j - 1) v)
chained_put ns fs xs count j n v some h e k r c =
    let q : j - 1 < length ns = omega (arith, some, h) in
    let number : n ≡ get_or ns (j - 1) 0 = number_at ns fs xs count j n some h e c in
    let value : v ≡ get_or fs n 0 = get_or_read fs n v (let t : n < length fs = omega (arith, k, c.counted) in t) r 0 in
    subst (λ w. AreChained ns count (j - 1) (set fs n (j - 1)) (set xs (j - 1) w)) (sym value)
    (subst (λ m. AreChained ns count (j - 1) (set fs m (j - 1)) (set xs (j - 1) (get_or fs m 0))) (sym number)
    (chained_more ns fs xs count j (j - 1) (omega (arith, some)) q (subst (λ m. m < count) number k) c))
