-- Tests of lists.
use Rattle.std.proofs.Common.{◌≡◌, ℕ, zero, suc, ◌<◌, ◌⊎◌, Bool, true, false, not, ◌&&◌, ◌||◌, ◌==◌, List, [], ◌∷◌, ◌++◌, length, refl, sym, ap, subst, inl, inr, arith, rules}
use Rattle.std.specs.Prelude.{slice_index_or}
use Rattle.std.specs.List.{list_all}
use Rattle.std.proofs.lemmas.Bool.{or_cases}
use Rattle.digraph.specs.Graph.{is_in, are_distinct}
use Rattle.text_core.proofs.Truths.{bool_cases, not_true}

pub and_left : (a b : Bool) → (a && b) ≡ true → a ≡ true
and_left true b h = refl
and_left false b h = h

pub and_right : (a b : Bool) → (a && b) ≡ true → b ≡ true
and_right true b h = h
and_right false b h = cc

pub and_both : (a b : Bool) → a ≡ true → b ≡ true → (a && b) ≡ true
and_both a b h g = cc

pub or_left : (a b : Bool) → a ≡ true → (a || b) ≡ true
or_left true b h = refl
or_left false b h = cc

pub or_right : (a b : Bool) → b ≡ true → (a || b) ≡ true
or_right true b h = refl
or_right false b h = h

pub not_both : (b : Bool) → b ≡ true → b ≡ false → ⊥
not_both b h g = cc

pub same : (a b : ℕ) → (a == b) ≡ true → a ≡ b
same a b h = search rules

pub same_back : (a b : ℕ) → a ≡ b → (a == b) ≡ true
same_back a b h = search rules

pub all_more : {X : Type 0} (p q : X → Bool) → ((x : X) → p x ≡ true → q x ≡ true) → (xs : List X) → list_all p xs ≡ true → list_all q xs ≡ true
all_more p q f [] h = refl
all_more p q f (x ∷ xs) h =
    and_both (q x) (list_all q xs) (f x (and_left (p x) (list_all p xs) h)) (all_more p q f xs (and_right (p x) (list_all p xs) h))

pub all_end : {X : Type 0} (p : X → Bool) (xs : List X) (x : X) → list_all p xs ≡ true → p x ≡ true → list_all p (xs ++ x ∷ []) ≡ true
all_end p [] x h g = and_both (p x) true g refl
all_end p (y ∷ ys) x h g =
    and_both (p y) (list_all p (ys ++ x ∷ [])) (and_left (p y) (list_all p ys) h) (all_end p ys x (and_right (p y) (list_all p ys) h) g)

pub all_front : {X : Type 0} (p : X → Bool) (xs : List X) (x : X) → list_all p (xs ++ x ∷ []) ≡ true → list_all p xs ≡ true
all_front p [] x h = refl
all_front p (y ∷ ys) x h =
    and_both (p y) (list_all p ys) (and_left (p y) (list_all p (ys ++ x ∷ [])) h) (all_front p ys x (and_right (p y) (list_all p (ys ++ x ∷ [])) h))

pub all_last : {X : Type 0} (p : X → Bool) (xs : List X) (x : X) → list_all p (xs ++ x ∷ []) ≡ true → p x ≡ true
all_last p [] x h = and_left (p x) true h
all_last p (y ∷ ys) x h = all_last p ys x (and_right (p y) (list_all p (ys ++ x ∷ [])) h)

-- each element of a list that passes does
pub all_at : (p : ℕ → Bool) (xs : List ℕ) (x : ℕ) → list_all p xs ≡ true → is_in xs x ≡ true → p x ≡ true
all_at p [] x h g = cc
all_at p (y ∷ ys) x h g =
    elim (or_cases (y == x) (is_in ys x) g) [
      | inl e ↦ let s : y ≡ x = same y x e in let k : p y ≡ true = and_left (p y) (list_all p ys) h in cc
      | inr m ↦ all_at p ys x (and_right (p y) (list_all p ys) h) m
    ]

pub in_end : (xs : List ℕ) (x : ℕ) → is_in (xs ++ x ∷ []) x ≡ true
in_end [] x = or_left (x == x) false (same_back x x refl)
in_end (y ∷ ys) x = or_right (y == x) (is_in (ys ++ x ∷ []) x) (in_end ys x)

pub in_front : (xs : List ℕ) (y x : ℕ) → is_in xs x ≡ true → is_in (xs ++ y ∷ []) x ≡ true
in_front [] y x h = cc
in_front (z ∷ zs) y x h =
    elim (or_cases (z == x) (is_in zs x) h) [
      | inl e ↦ or_left (z == x) (is_in (zs ++ y ∷ []) x) e
      | inr m ↦ or_right (z == x) (is_in (zs ++ y ∷ []) x) (in_front zs y x m)
    ]

pub in_cases : (xs : List ℕ) (y x : ℕ) → is_in (xs ++ y ∷ []) x ≡ true → (is_in xs x ≡ true) ⊎ (y ≡ x)
in_cases [] y x h = elim (or_cases (y == x) false h) [ inl e ↦ inr (same y x e) | inr m ↦ cc ]
in_cases (z ∷ zs) y x h =
    elim (or_cases (z == x) (is_in (zs ++ y ∷ []) x) h) [
      | inl e ↦ inl (or_left (z == x) (is_in zs x) e)
      | inr m ↦ elim (in_cases zs y x m) [ inl k ↦ inl (or_right (z == x) (is_in zs x) k) | inr k ↦ inr k ]
    ]

pub at_in : (xs : List ℕ) (i d : ℕ) → i < length xs → is_in xs (slice_index_or xs i d) ≡ true
at_in [] i d h = absurd (omega (arith, h))
at_in (x ∷ xs) zero d h = or_left (x == x) (is_in xs x) (same_back x x refl)
at_in (x ∷ xs) (suc i) d h = or_right (x == slice_index_or xs i d) (is_in xs (slice_index_or xs i d)) (at_in xs i d (omega (arith, h)))

pub all_get : {X : Type 0} (p : X → Bool) (xs : List X) (i : ℕ) (d : X) → i < length xs → list_all p xs ≡ true → p (slice_index_or xs i d) ≡ true
all_get p [] i d h a = absurd (omega (arith, h))
all_get p (x ∷ xs) zero d h a = and_left (p x) (list_all p xs) a
all_get p (x ∷ xs) (suc i) d h a = all_get p xs i d (omega (arith, h)) (and_right (p x) (list_all p xs) a)

pub last_at : (xs : List ℕ) (x : ℕ) → slice_index_or (xs ++ x ∷ []) (length xs) 0 ≡ x
last_at [] x = refl
last_at (y ∷ ys) x = last_at ys x

or_rest : (a b : Bool) → (a || b) ≡ false → b ≡ false
or_rest true b h = cc
or_rest false b h = h

-- what is not in a list, nor at its end
not_in : (xs : List ℕ) (y x : ℕ) → is_in xs x ≡ false → (y ≡ x → ⊥) → is_in (xs ++ y ∷ []) x ≡ false
not_in xs y x h d =
    elim (bool_cases (is_in (xs ++ y ∷ []) x)) [
      | inl t ↦ elim (in_cases xs y x t) [ inl m ↦ absurd (not_both (is_in xs x) m h) | inr e ↦ absurd (d e) ]
      | inr f ↦ f
    ]

pub distinct_end : (xs : List ℕ) (y : ℕ) → are_distinct xs ≡ true → is_in xs y ≡ false → are_distinct (xs ++ y ∷ []) ≡ true
distinct_end [] y h n = refl
distinct_end (x ∷ xs) y h n =
    let off : is_in (xs ++ y ∷ []) x ≡ false = not_in xs y x (not_true (is_in xs x) (and_left (not (is_in xs x)) (are_distinct xs) h))
    (λ e. not_both (is_in (x ∷ xs) y) (or_left (x == y) (is_in xs y) (same_back x y (sym e))) n) in
    and_both (not (is_in (xs ++ y ∷ []) x)) (are_distinct (xs ++ y ∷ [])) (ap not off)
    (distinct_end xs y (and_right (not (is_in xs x)) (are_distinct xs) h) (or_rest (x == y) (is_in xs y) n))

pub distinct_front : (xs : List ℕ) (y : ℕ) → are_distinct (xs ++ y ∷ []) ≡ true → are_distinct xs ≡ true
distinct_front [] y h = refl
distinct_front (x ∷ xs) y h =
    and_both (not (is_in xs x)) (are_distinct xs)
    (elim (bool_cases (is_in xs x)) [
      | inl t ↦ absurd (not_both (is_in (xs ++ y ∷ []) x) (in_front xs y x t) (not_true _ (and_left (not (is_in (xs ++ y ∷ []) x)) (are_distinct (xs ++ y ∷ [])) h)))
      | inr f ↦ ap not f
    ])
    (distinct_front xs y (and_right (not (is_in (xs ++ y ∷ []) x)) (are_distinct (xs ++ y ∷ [])) h))

pub distinct_last : (xs : List ℕ) (y : ℕ) → are_distinct (xs ++ y ∷ []) ≡ true → is_in xs y ≡ true → ⊥
distinct_last [] y h i = cc
distinct_last (x ∷ xs) y h i =
    elim (or_cases (x == y) (is_in xs y) i) [
      | inl e ↦ not_both (is_in (xs ++ y ∷ []) x) (subst (λ (z : ℕ). is_in (xs ++ y ∷ []) z ≡ true) (sym (same x y e)) (in_end xs y)) (not_true _ (and_left (not (is_in (xs ++ y ∷ []) x)) (are_distinct (xs ++ y ∷ [])) h))
      | inr m ↦ distinct_last xs y (and_right (not (is_in (xs ++ y ∷ []) x)) (are_distinct (xs ++ y ∷ [])) h) m
    ]

pub only_node : (k : ℕ) → k < 1 → is_in (0 ∷ []) k ≡ true
only_node zero h = refl
only_node (suc k) h = absurd (omega (arith, h))
