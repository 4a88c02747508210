-- Conjunctions and disjunctions of tests.
use Rattle.std.proofs.Common.{◌≡◌, Bool, true, false, ◌&&◌, ◌||◌, refl}
use mathlib.Core.Logic.{◌⊎◌, inl, inr}

pub both_true : (a b : Bool) → (a && b) ≡ true → (a ≡ true) × (b ≡ true)
both_true true true h = (refl, refl)
both_true true false h = cc
both_true false true h = cc
both_true false false h = cc

pub two_true : (a b : Bool) → a ≡ true → b ≡ true → (a && b) ≡ true
two_true true true h k = refl
two_true true false h k = k
two_true false b h k = h

pub or_true : (a b : Bool) → (a || b) ≡ true → (a ≡ true) ⊎ (b ≡ true)
or_true true b h = inl refl
or_true false b h = inr h

pub absurd_bool : {X : Type 0} → false ≡ true → X
absurd_bool h = cc
