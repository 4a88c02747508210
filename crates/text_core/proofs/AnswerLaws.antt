-- Results one behind another.
use Rattle.std.proofs.Common.{◌≡◌, Result, Ok, Err, refl, ℕ, Bool, true, false, cond, ap, sym, subst}
use Rattle.text_core.specs.declared.place.Refusal.{Refusal}
use Rattle.text_core.specs.Answers.{go_on, refused, Leaves}
use Rattle.text_core.specs.declared.place.Place.{Place}
use Rattle.text_core.specs.declared.end.End.{End}
use Rattle.text_core.specs.declared.end.End.TheVariants.{Bad, NoMemory}

pub go_on_ok : {A B : Type 0} (o : Result A Refusal) (f : A → Result B Refusal) (y : B) → go_on o f ≡ Ok y → (x : A) × (o ≡ Ok x) × (f x ≡ Ok y)
go_on_ok (Ok x) f y e = (x, refl, e)
go_on_ok (Err refusal) f y e = absurd (let g : Err refusal ≡ Ok y = e in cc)

-- the first of two outcomes, where the other is a refusal
pub taken : {A : Type 0} (b : Bool) (o : Result A Refusal) (n : ℕ) (at : Place) (y : A) → cond b o (refused n at) ≡ Ok y → (b ≡ true) × (o ≡ Ok y)
taken true o n at y e = (refl, e)
taken false o n at y e = absurd (let g : refused n at ≡ Ok y = e in cc)

pub passed_by : {A : Type 0} (b : Bool) (o : Result A Refusal) (n : ℕ) (at : Place) (y : A) → cond b (refused n at) o ≡ Ok y → (b ≡ false) × (o ≡ Ok y)
passed_by true o n at y e = absurd (let g : refused n at ≡ Ok y = e in cc)
passed_by false o n at y e = (refl, e)

pub none_refused : {A : Type 0} (n : ℕ) (at : Place) (y : A) → refused n at ≡ Ok y → ⊥
none_refused n at y e = cc

abbrev pub done : {A : Type 0} → A → Result A Refusal
done x = Ok x

pub same_ok : {A : Type 0} (x y : A) → done x ≡ done y → x ≡ y
same_ok x y e = cc

-- the first of two steps is refused
pub first_refuses : {A : Type 0} (B : Type 0) (o : Result A Refusal) (f : A → Result A Refusal) (q new : A) (e : End) → Leaves {B = B} o q (Err e) → Leaves {B = B} (go_on o f) new (Err e)
first_refuses B o f q new (Bad refusal) h = ap (λ x. go_on x f) h
first_refuses B o f q new NoMemory h = tt

-- or goes on
pub then_leaves : {A B : Type 0} (o : Result A Refusal) (f : A → Result A Refusal) (q new : A) (r : Result B End) → o ≡ Ok q → Leaves (f q) new r → Leaves (go_on o f) new r
then_leaves {A = A} o f q new r e h = subst (λ (x : Result A Refusal). Leaves (go_on x f) new r) (sym e) h
