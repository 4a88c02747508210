-- Laws of truth values, and of what may be missing.
use Rattle.std.proofs.Common.{◌≡◌, ◌⊎◌, Bool, true, false, refl, inl, inr, not, ◌||◌, ◌&&◌, cond, sym, Option, Some, None}
use Rattle.std.proofs.lemmas.Option.{none-some}
use Rattle.std.specs.Prelude.{option_and_then}
use Rattle.std.specs.Option.{option_or}

pub bool_cases : (b : Bool) → (b ≡ true) ⊎ (b ≡ false)
bool_cases true = inl refl
bool_cases false = inr refl

pub not_true : (b : Bool) → not b ≡ true → b ≡ false
not_true true h = cc
not_true false h = refl

pub or_false : (b : Bool) → (b || false) ≡ b
or_false true = refl
or_false false = refl

pub and_true : (b : Bool) → (b && true) ≡ b
and_true true = refl
and_true false = refl

pub passed_over : {A : Type 0} (b : Bool) (x y : A) → (b ≡ true → ⊥) → cond b x y ≡ y
passed_over true x y h = absurd (h refl)
passed_over false x y h = refl

abbrev pub same : Bool → Bool → Bool
same true b = b
same false b = not b

pub same_is : (a b : Bool) → same a b ≡ true → a ≡ b
same_is true b e = sym e
same_is false true e = absurd (let g : false ≡ true = e in cc)
same_is false false e = refl

pub cond_some : {X : Type 0} (b : Bool) (o : Option X) (v : X) → cond b o None ≡ Some v → (b ≡ true) × (o ≡ Some v)
cond_some true o v h = (refl, h)
cond_some false o v h = absurd (none-some v h)

pub then_some : {X Y : Type 0} (f : X → Option Y) (o : Option X) (v : Y) → option_and_then f o ≡ Some v → (x : X) × (f x ≡ Some v) × (o ≡ Some x)
then_some f None v h = absurd (none-some v h)
then_some f (Some x) v h = (x, h, refl)

pub or_none : {X : Type 0} (o : Option X) → option_or o None ≡ o
or_none None = refl
or_none (Some x) = refl
