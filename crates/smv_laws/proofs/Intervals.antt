-- Intervals: what lies between ends stays between the results over the ends.
use Rattle.std.proofs.Common.{◌≡◌, ℕ, zero, suc, ◌+◌, ◌/◌, ◌%◌, ◌<◌, ◌≤◌, Bool, true, false, ◌==◌, if◌then◌else◌, min, ℤ, pos, negsuc, neg_ℤ, nat_abs, ◌+ℤ◌, ◌-ℤ◌, ◌*ℤ◌, ◌≤ℤ◌, int_lt, int_le, int_div, int_rem, refl, sym, subst, arith}
use Rattle.std.proofs.lemmas.Int.{ints, clamps, quot-rem}
use Rattle.std.proofs.Math.Nat.{mul-le-mul_right, mod-lt, mod-le, div-zero, div-mul-le_self, div-add-mod'}
use Rattle.std.proofs.Math.IntN.{*ℤ_comm, neg_ℤ-neg_ℤ}
use mathlib.Core.Logic.{⊎_elim}
use Rattle.std.proofs.lemmas.Bool.{cases_lt}
use borrow.Author.Differences.{le_out, up, down}
use Rattle.std.specs.Int.{int_min, int_max}
use Rattle.smv_meaning.specs.Operators.{int_abs, int_mod}
use Rattle.smv_meaning.specs.Types.{rest_low, rest_high}

-- what lies between two ends has its result between the ends' results
abbrev pub Steady : (ℤ → ℤ) → Type 0
Steady f = (a b c : ℤ) → a ≤ℤ c → c ≤ℤ b → (int_min (f a) (f b) ≤ℤ f c) × (f c ≤ℤ int_max (f a) (f b))

pub sum_left : (y : ℤ) → Steady (λ x. x +ℤ y)
sum_left y a b c h k = (omega (arith, ints, clamps), omega (arith, ints, clamps))

pub sum_right : (x : ℤ) → Steady (λ y. x +ℤ y)
sum_right x a b c h k = (omega (arith, ints, clamps), omega (arith, ints, clamps))

pub difference_left : (y : ℤ) → Steady (λ x. x -ℤ y)
difference_left y a b c h k = (omega (arith, ints, clamps), omega (arith, ints, clamps))

pub difference_right : (x : ℤ) → Steady (λ y. x -ℤ y)
difference_right x a b c h k = (omega (arith, ints, clamps), omega (arith, ints, clamps))

pub minus_steady : Steady neg_ℤ
minus_steady a b c h k = (omega (arith, ints, clamps), omega (arith, ints, clamps))

pub max_left : (y : ℤ) → Steady (λ x. int_max x y)
max_left y a b c h k = (omega (arith, ints, clamps), omega (arith, ints, clamps))

pub max_right : (x : ℤ) → Steady (λ y. int_max x y)
max_right x a b c h k = (omega (arith, ints, clamps), omega (arith, ints, clamps))

pub min_left : (y : ℤ) → Steady (λ x. int_min x y)
min_left y a b c h k = (omega (arith, ints, clamps), omega (arith, ints, clamps))

pub min_right : (x : ℤ) → Steady (λ y. int_min x y)
min_right x a b c h k = (omega (arith, ints, clamps), omega (arith, ints, clamps))

-- a product grows with its left factor where the right one isn't negative, and falls where it is
times_grows : (a c : ℤ) (k : ℕ) → a ≤ℤ c → (a *ℤ pos k) ≤ℤ (c *ℤ pos k)
times_grows a c k h = let more = mul-le-mul_right k (le_out a c h) in omega (arith, ints, more)

times_falls : (a c : ℤ) (k : ℕ) → a ≤ℤ c → (c *ℤ negsuc k) ≤ℤ (a *ℤ negsuc k)
times_falls a c k h = let more = mul-le-mul_right (suc k) (le_out a c h) in omega (arith, ints, more)

pub product_left : (y : ℤ) → Steady (λ x. x *ℤ y)
product_left (pos k) a b c h l =
    let g = times_grows a c k h in let f = times_grows c b k l in (omega (arith, ints, clamps, g, f), omega (arith, ints, clamps, g, f))
product_left (negsuc k) a b c h l =
    let g = times_falls a c k h in let f = times_falls c b k l in (omega (arith, ints, clamps, g, f), omega (arith, ints, clamps, g, f))

pub product_right : (x : ℤ) → Steady (λ y. x *ℤ y)
product_right x a b c h l =
    subst (λ z. (int_min (x *ℤ a) (x *ℤ b) ≤ℤ z) × (z ≤ℤ int_max (x *ℤ a) (x *ℤ b))) (*ℤ_comm c x)
    (subst (λ z. (int_min (x *ℤ a) z ≤ℤ (c *ℤ x)) × ((c *ℤ x) ≤ℤ int_max (x *ℤ a) z)) (*ℤ_comm b x)
    (subst (λ z. (int_min z (b *ℤ x) ≤ℤ (c *ℤ x)) × ((c *ℤ x) ≤ℤ int_max z (b *ℤ x))) (*ℤ_comm a x) (product_left x a b c h l)))

-- a quotient of naturals grows with the number divided
div_grows : (a c k : ℕ) → a ≤ c → a / k ≤ c / k
div_grows a c zero h = omega (arith, div-zero a, div-zero c)
div_grows a c (suc k) h = ⊎_elim (λ l. absurd (smaller l)) (λ l. l) (cases_lt (c / suc k) (a / suc k))
  where
    smaller : c / suc k < a / suc k → ⊥
    smaller l =
        let more = mul-le-mul_right (suc k) l in
        let p = div-mul-le_self a (suc k) in
        let q = div-add-mod' c (suc k) in
        let r : c % suc k < suc k = mod-lt c (omega arith) in
        omega (arith, more, p, q, r)

quotient_grows : (a c : ℤ) (k : ℕ) → a ≤ℤ c → int_div a (pos k) ≤ℤ int_div c (pos k)
quotient_grows (pos a) (pos c) k h = let l = div_grows a c k (omega (arith, ints)) in omega (arith, ints)
quotient_grows (pos a) (negsuc c) k h = absurd (omega (arith, ints))
quotient_grows (negsuc a) (pos c) k h = omega (arith, ints)
quotient_grows (negsuc a) (negsuc c) k h = let l = div_grows (suc c) (suc a) k (omega (arith, ints)) in omega (arith, ints)

minus_quotient : (a : ℤ) (k : ℕ) → int_div a (negsuc k) ≡ neg_ℤ (int_div a (pos (suc k)))
minus_quotient (pos a) k = refl
minus_quotient (negsuc a) k = sym (neg_ℤ-neg_ℤ (pos (suc a / suc k)))

pub quotient_steady : (b : ℤ) → Steady (λ a. int_div a b)
quotient_steady (pos k) a b c h l =
    let g = quotient_grows a c k h in let f = quotient_grows c b k l in (omega (arith, ints, clamps), omega (arith, ints, clamps))
quotient_steady (negsuc k) a b c h l =
    let g = quotient_grows a c (suc k) h in
    let f = quotient_grows c b (suc k) l in
    let p = minus_quotient a k in
    let q = minus_quotient b k in
    let r = minus_quotient c k in
    (omega (arith, ints, clamps), omega (arith, ints, clamps))

-- what `mod` gives is the rest with the sign of the number divided
pub mod_is : (a b : ℤ) → int_mod a b ≡ int_rem a b
mod_is a b = let e = quot-rem a b in omega (arith, ints)

positive : (m : ℕ) → (m == 0) ≡ false → 0 < m
positive zero h = cc
positive (suc m) h = omega arith

-- one of the two parts of an integer is 0
pub one_part : (a : ℤ) → min (up a) (down a) ≡ 0
one_part (pos n) = omega arith
one_part (negsuc n) = omega arith

-- a rest is no farther from 0 than the number divided, and less far than the divisor
rest_of : (a b : ℤ) → (nat_abs b == 0) ≡ false
    → (up (int_rem a b) ≤ up a) × (down (int_rem a b) ≤ down a) × (up (int_rem a b) < nat_abs b) × (down (int_rem a b) < nat_abs b)
rest_of (pos a) b h =
    let some : 0 < nat_abs b = positive (nat_abs b) h in
    let less : a % nat_abs b < nat_abs b = mod-lt a some in
    (mod-le a (nat_abs b), omega arith, less, some)
rest_of (negsuc a) b h =
    let some : 0 < nat_abs b = positive (nat_abs b) h in
    let less : suc a % nat_abs b < nat_abs b = mod-lt (suc a) some in
    let most = mod-le (suc a) (nat_abs b) in
    (omega (arith, ints), omega (arith, ints), omega (arith, ints), omega (arith, ints))

pub rest_low_holds : (low a b : ℤ) → low ≤ℤ a → (nat_abs b == 0) ≡ false → rest_low low (nat_abs b) ≤ℤ int_mod a b
rest_low_holds low a b h n = subst (λ r. rest_low low (nat_abs b) ≤ℤ r) (sym (mod_is a b)) (by (int_le (pos 0) low) refl)
  where
    by : (t : Bool) → int_le (pos 0) low ≡ t → (if t then pos 0 else int_max low (pos 1 -ℤ pos (nat_abs b))) ≤ℤ int_rem a b
    by true e = let r = rest_of a b n in omega (arith, ints, one_part a, one_part (int_rem a b))
    by false e = let r = rest_of a b n in omega (arith, ints, clamps, one_part a, one_part (int_rem a b))

pub rest_high_holds : (high a b : ℤ) → a ≤ℤ high → (nat_abs b == 0) ≡ false → int_mod a b ≤ℤ rest_high high (nat_abs b)
rest_high_holds high a b h n = subst (λ r. r ≤ℤ rest_high high (nat_abs b)) (sym (mod_is a b)) (by (int_le high (pos 0)) refl)
  where
    by : (t : Bool) → int_le high (pos 0) ≡ t → int_rem a b ≤ℤ (if t then pos 0 else int_min high (pos (nat_abs b) -ℤ pos 1))
    by true e = let r = rest_of a b n in omega (arith, ints, one_part a, one_part (int_rem a b))
    by false e = let r = rest_of a b n in omega (arith, ints, clamps, one_part a, one_part (int_rem a b))

pub abs_parts : (z : ℤ) → (up (int_abs z) ≡ up z + down z) × (down (int_abs z) ≡ 0)
abs_parts z = by (int_lt z (pos 0)) refl
  where
    by : (t : Bool) → int_lt z (pos 0) ≡ t → (up (if t then neg_ℤ z else z) ≡ up z + down z) × (down (if t then neg_ℤ z else z) ≡ 0)
    by true e = (omega (arith, ints, one_part z), omega (arith, ints, one_part z))
    by false e = (omega (arith, ints, one_part z), omega (arith, ints, one_part z))
