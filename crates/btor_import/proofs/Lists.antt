-- Lists: what holds of all elements, elements that differ, and elements by their places.
use Rattle.std.proofs.Common.{◌≡◌, ◌≢◌, ℕ, zero, suc, ◌+◌, List, [], ◌∷◌, ◌++◌, map, length, Some, refl, sym, ap, ◌∙◌, arith, inl, inr, ◌⊎◌}
use Rattle.std.specs.Prelude.{slice_get}
use Rattle.std.specs.List.{AllByRecursion}
use Rattle.std.proofs.lemmas.Option.{same_Some, none-some}
use Rattle.name_maps.proofs.FreshNames.{AllDiffer}

-- ---- what holds of all elements

pub all_by : {X : Type 0} (P : X → Type 0) (xs : List X) → ((k : ℕ) (x : X) → slice_get xs k ≡ Some x → P x) → AllByRecursion P xs
all_by P [] f = tt
all_by P (x ∷ xs) f = (f 0 x refl, all_by P xs (λ k y h. f (suc k) y h))

-- ---- elements by their places

pub behind : {X : Type 0} (xs ys : List X) (k : ℕ) → slice_get (xs ++ ys) (length xs + k) ≡ slice_get ys k
behind [] ys k = ap (slice_get ys) (let e : 0 + k ≡ k = omega arith in e)
behind (x ∷ xs) ys k = ap (slice_get (x ∷ (xs ++ ys))) (let e : suc (length xs) + k ≡ suc (length xs + k) = omega arith in e) ∙ behind xs ys k

pub in_front : {X : Type 0} (xs ys : List X) (k : ℕ) (x : X) → slice_get xs k ≡ Some x → slice_get (xs ++ ys) k ≡ Some x
in_front [] ys k x h = absurd (none-some x h)
in_front (z ∷ xs) ys zero x h = h
in_front (z ∷ xs) ys (suc k) x h = in_front xs ys k x h

-- in front, or behind
pub one_of_two : {X : Type 0} (xs ys : List X) (v : ℕ) (x : X) → slice_get (xs ++ ys) v ≡ Some x → (slice_get xs v ≡ Some x) ⊎ ((k : ℕ) × (v ≡ length xs + k) × (slice_get ys k ≡ Some x))
one_of_two [] ys v x h = inr (v, (let e : v ≡ 0 + v = omega arith in e), h)
one_of_two (z ∷ xs) ys zero x h = inl h
one_of_two (z ∷ xs) ys (suc v) x h =
    elim (one_of_two xs ys v x h) [
      | inl a ↦ inl a
      | inr a ↦ inr (a.0, (let p = a.1 in let e : suc v ≡ suc (length xs) + a.0 = omega (arith, p) in e), a.2)
    ]

pub mapped_at : {X Y : Type 0} (f : X → Y) (xs : List X) (k : ℕ) (y : Y) → slice_get (map f xs) k ≡ Some y → (x : X) × (slice_get xs k ≡ Some x) × (y ≡ f x)
mapped_at f [] k y h = absurd (none-some y h)
mapped_at f (x ∷ xs) zero y h = (x, refl, sym (same_Some (f x) y h))
mapped_at f (x ∷ xs) (suc k) y h = mapped_at f xs k y h

-- ---- elements that differ

pub differ_by : {X : Type 0} (xs : List X) → ((k l : ℕ) (x y : X) → slice_get xs k ≡ Some x → slice_get xs l ≡ Some y → x ≡ y → k ≡ l) → AllDiffer xs
differ_by [] h = tt
differ_by (x ∷ xs) h = (
  all_by (λ y. y ≢ x) xs (λ k y e s. let z : 0 ≡ suc k = h 0 (suc k) x y refl e (sym s) in absurd (omega (arith, z))),
  differ_by xs (λ k l a b e f s. let z : suc k ≡ suc l = h (suc k) (suc l) a b e f s in let r : k ≡ l = omega (arith, z) in r),
)

-- ---- names that differ, by tests
