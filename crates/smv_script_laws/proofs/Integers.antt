-- Two's complement: what the operators on words give for the codes of integers is the code of what they give for the integers.
use Rattle.std.proofs.Common.{◌≡◌, ℕ, zero, suc, ◌+◌, ◌-◌, ◌*◌, ◌/◌, ◌%◌, ◌^◌, ◌<◌, ◌≤◌, Bool, true, false, not, ◌==◌, nat_lt, if◌then◌else◌, ℤ, pos, negsuc, neg_ℤ, nat_abs, ◌+ℤ◌, ◌-ℤ◌, ◌*ℤ◌, int_div, refl, sym, ap, ◌∙◌, arith}
use Rattle.std.proofs.lemmas.Int.{ints, int_rem_euclid_is}
use Rattle.std.proofs.lemmas.Nat.{pow_pos, div-add-mod'}
use Rattle.std.proofs.lemmas.Bool.{lt-ltb, le-ltb, le-leb, lt-leb}
use Rattle.std.proofs.Math.Nat.{mod-lt, mod-eq_of_lt, mul-le-mul_left, mul_comm, two-pow-succ, div-le_self, mod-le}
use Rattle.std.proofs.Math.IntN.{*ℤ_comm}
use Rattle.std.specs.Int.{int_rem_euclid}
use borrow.Author.Differences.{up, down}
use Rattle.word_core.specs.Table.{signed_value, is_minus, negated, negated_if, magnitude, quotient, rest}
use Rattle.smv_meaning.specs.Operators.{int_mod}
use Rattle.smv_laws.proofs.Intervals.{mod_is}
use Rattle.smv_flat.specs.FlatWidth.{Holds}
use Rattle.smv_script.specs.Codes.{integer_bits}

-- ---- congruence

by_euclid : (w : ℕ) (z : ℤ) → int_rem_euclid z (pos (2 ^ w)) ≡ pos (integer_bits w z)
by_euclid w (pos n) = refl
by_euclid w (negsuc n) = refl

from : (w : ℕ) (z : ℤ) (i n : ℕ) → z +ℤ pos (i * 2 ^ w) ≡ pos n → integer_bits w z ≡ n % 2 ^ w
from w z i n e = ap nat_abs (sym (by_euclid w z) ∙ int_rem_euclid_is z (pos (2 ^ w)) (2 ^ w) i n (pow_pos w) refl e)

-- an integer and its code differ by a multiple of two to the width
left : (w : ℕ) (z : ℤ) → (j : ℕ) × (k : ℕ) × (pos (integer_bits w z) +ℤ pos (j * 2 ^ w) ≡ z +ℤ pos (k * 2 ^ w))
left w (pos a) = (a / 2 ^ w, 0, omega (arith, ints, div-add-mod' a (2 ^ w)))
left w (negsuc a) =
    let small : a % 2 ^ w < 2 ^ w = mod-lt a (pow_pos w) in
    (0, a / 2 ^ w + 1, omega (arith, ints, div-add-mod' a (2 ^ w)))

-- integers that differ by such a multiple have one code
pub same_code : (w : ℕ) (a b : ℤ) (j k : ℕ) → a +ℤ pos (j * 2 ^ w) ≡ b +ℤ pos (k * 2 ^ w) → integer_bits w a ≡ integer_bits w b
same_code w a b j k e =
    let some = pow_pos w in
    let t = down a + down b in
    let far : t * 1 ≤ t * 2 ^ w = mul-le-mul_left t some in
    let n = up a + (j + t) * 2 ^ w - down a in
    from w a (j + t) n (omega (arith, ints)) ∙ sym (from w b (k + t) n (omega (arith, ints)))

pub bits_below : (w : ℕ) (z : ℤ) → integer_bits w z < 2 ^ w
bits_below w (pos n) = mod-lt n (pow_pos w)
bits_below w (negsuc n) = let some = pow_pos w in omega arith

pub bits_sum : (w : ℕ) (a b : ℤ) → (integer_bits w a + integer_bits w b) % 2 ^ w ≡ integer_bits w (a +ℤ b)
bits_sum w a b =
    let l = left w a in
    let r = left w b in
    let p = l.2 in
    let q = r.2 in
    same_code w (pos (integer_bits w a + integer_bits w b)) (a +ℤ b) (l.0 + r.0) (l.1 + r.1) (omega (arith, ints, p, q))

pub bits_difference : (w : ℕ) (a b : ℤ) → (integer_bits w a + (2 ^ w - integer_bits w b)) % 2 ^ w ≡ integer_bits w (a -ℤ b)
bits_difference w a b =
    let l = left w a in
    let r = left w b in
    let p = l.2 in
    let q = r.2 in
    let small = bits_below w b in
    same_code w (pos (integer_bits w a + (2 ^ w - integer_bits w b))) (a -ℤ b) (l.0 + r.1) (l.1 + r.0 + 1) (omega (arith, ints, p, q))

pub bits_negated : (w : ℕ) (z : ℤ) → negated w (integer_bits w z) ≡ integer_bits w (neg_ℤ z)
bits_negated w z =
    let l = left w z in
    let p = l.2 in
    let small = bits_below w z in
    same_code w (pos (2 ^ w - integer_bits w z)) (neg_ℤ z) l.1 (l.0 + 1) (omega (arith, ints, p))

times : (w : ℕ) (a b c : ℤ) (j k : ℕ) → a +ℤ pos (j * 2 ^ w) ≡ b +ℤ pos (k * 2 ^ w) → integer_bits w (a *ℤ c) ≡ integer_bits w (b *ℤ c)
times w a b c j k e =
    let sum : up a + j * 2 ^ w + down b ≡ up b + k * 2 ^ w + down a = omega (arith, ints) in
    let above = ap (λ x. x * up c) sum in
    let below = ap (λ x. x * down c) sum in
    same_code w (a *ℤ c) (b *ℤ c) (j * up c + k * down c) (k * up c + j * down c) (omega (arith, ints, above, below))

pub bits_product : (w : ℕ) (a b : ℤ) → (integer_bits w a * integer_bits w b) % 2 ^ w ≡ integer_bits w (a *ℤ b)
bits_product w a b =
    let l = left w a in
    let r = left w b in
    ap (λ n. n % 2 ^ w) (mul_comm (integer_bits w a) (integer_bits w b))
    ∙ times w (pos (integer_bits w b)) b (pos (integer_bits w a)) r.0 r.1 r.2 ∙ ap (integer_bits w) (*ℤ_comm b (pos (integer_bits w a))) ∙ times w (pos (integer_bits w a)) a b l.0 l.1 l.2

-- ---- the signed value

half : (w : ℕ) → 1 ≤ w → 2 ^ w ≡ 2 ^ (w - 1) + 2 ^ (w - 1)
half zero h = absurd (omega arith)
half (suc w) h = two-pow-succ w ∙ ap (λ v. 2 ^ v + 2 ^ v) (omega arith)

pub pick_true : {X : Type 0} (b : Bool) (x y : X) → b ≡ true → (if b then x else y) ≡ x
pick_true b x y e = ap (λ c. if c then x else y) e

pub pick_false : {X : Type 0} (b : Bool) (x y : X) → b ≡ false → (if b then x else y) ≡ y
pick_false b x y e = ap (λ c. if c then x else y) e

-- the code of an integer that the width holds
held_bits : (w : ℕ) (n : ℕ) → 1 ≤ w → n < 2 ^ (w - 1) → n % 2 ^ w ≡ n
held_bits w n s h = let e = half w s in mod-eq_of_lt (omega arith)

turned_back : (m n : ℕ) → n < m → pos (m - 1 - n) -ℤ pos m ≡ negsuc n
turned_back m n h = omega (arith, ints)

pub signed_back : (w : ℕ) (z : ℤ) → 1 ≤ w → Holds w z → signed_value w (integer_bits w z) ≡ z
signed_back w (pos n) s h =
    let l : n < 2 ^ (w - 1) = let k = h.1 in omega (arith, ints) in
    ap (signed_value w) (held_bits w n s l) ∙ pick_true (nat_lt n (2 ^ (w - 1))) (pos n) (pos n -ℤ pos (2 ^ w)) (lt-ltb n (2 ^ (w - 1)) l)
signed_back w (negsuc n) s h =
    let l : n < 2 ^ (w - 1) = let k = h.0 in omega (arith, ints) in
    let e = half w s in
    let b : integer_bits w (negsuc n) ≡ 2 ^ w - 1 - n = ap (λ m. 2 ^ w - 1 - m) (held_bits w n s l) in
    ap (signed_value w) b ∙ pick_false (nat_lt (2 ^ w - 1 - n) (2 ^ (w - 1))) (pos (2 ^ w - 1 - n)) (pos (2 ^ w - 1 - n) -ℤ pos (2 ^ w)) (le-ltb (2 ^ w - 1 - n) (2 ^ (w - 1)) (omega arith))
    ∙ turned_back (2 ^ w) n (omega arith)

-- integers that the width holds are one where their codes are
pub same_integers : (w : ℕ) (a b : ℤ) → 1 ≤ w → Holds w a → Holds w b → integer_bits w a ≡ integer_bits w b → a ≡ b
same_integers w a b s h k e = sym (signed_back w a s h) ∙ ap (signed_value w) e ∙ signed_back w b s k

-- ---- quotients and rests

abbrev is_negative : ℤ → Bool
is_negative (pos n) = false
is_negative (negsuc n) = true

sign_is : (w : ℕ) (z : ℤ) → 1 ≤ w → Holds w z → is_minus w (integer_bits w z) ≡ is_negative z
sign_is w (pos n) s h =
    let l : n < 2 ^ (w - 1) = let k = h.1 in omega (arith, ints) in
    ap (is_minus w) (held_bits w n s l) ∙ lt-leb (2 ^ (w - 1)) n l
sign_is w (negsuc n) s h =
    let l : n < 2 ^ (w - 1) = let k = h.0 in omega (arith, ints) in
    let e = half w s in
    ap (λ m. is_minus w (2 ^ w - 1 - m)) (held_bits w n s l) ∙ le-leb (2 ^ (w - 1)) (2 ^ w - 1 - n) (omega arith)

magnitude_is : (w : ℕ) (z : ℤ) → 1 ≤ w → Holds w z → magnitude w (integer_bits w z) ≡ nat_abs z
magnitude_is w (pos n) s h =
    let l : n < 2 ^ (w - 1) = let k = h.1 in omega (arith, ints) in
    ap (λ b. negated_if b w (integer_bits w (pos n))) (sign_is w (pos n) s h) ∙ held_bits w n s l
magnitude_is w (negsuc n) s h =
    let l : n < 2 ^ (w - 1) = let k = h.0 in omega (arith, ints) in
    let e = half w s in
    ap (λ b. negated_if b w (integer_bits w (negsuc n))) (sign_is w (negsuc n) s h) ∙ bits_negated w (negsuc n) ∙ mod-eq_of_lt (omega arith)

-- with the sign minus where this holds
abbrev signed_by : Bool → ℕ → ℤ
signed_by b n = if b then neg_ℤ (pos n) else pos n

signed_bits : (w n : ℕ) (b : Bool) → n < 2 ^ w → negated_if b w n ≡ integer_bits w (signed_by b n)
signed_bits w n true h = ap (negated w) (sym (mod-eq_of_lt h)) ∙ bits_negated w (pos n)
signed_bits w n false h = sym (mod-eq_of_lt h)

abbrev signs_differ : Bool → Bool → Bool
signs_differ a b = if a then not b else b

quotient_is : (a b : ℤ) → int_div a b ≡ signed_by (signs_differ (is_negative a) (is_negative b)) (nat_abs a / nat_abs b)
quotient_is (pos a) (pos b) = refl
quotient_is (pos a) (negsuc b) = refl
quotient_is (negsuc a) (pos b) = refl
quotient_is (negsuc a) (negsuc b) = refl

rest_is : (a b : ℤ) → int_mod a b ≡ signed_by (is_negative a) (nat_abs a % nat_abs b)
rest_is (pos a) b = mod_is (pos a) b
rest_is (negsuc a) b = mod_is (negsuc a) b

held_small : (w : ℕ) (z : ℤ) → 1 ≤ w → Holds w z → nat_abs z < 2 ^ w
held_small w (pos n) s h = let k = h.1 in let e = half w s in let p = pow_pos (w - 1) in omega (arith, ints)
held_small w (negsuc n) s h = let k = h.0 in let e = half w s in let p = pow_pos (w - 1) in omega (arith, ints)

pub bits_quotient : (w : ℕ) (a b : ℤ) → 1 ≤ w → Holds w a → Holds w b → (nat_abs b == 0) ≡ false
    → negated_if (if is_minus w (integer_bits w a) then not (is_minus w (integer_bits w b)) else is_minus w (integer_bits w b)) w
    (quotient w (magnitude w (integer_bits w a)) (magnitude w (integer_bits w b))) ≡ integer_bits w (int_div a b)
bits_quotient w a b s h k n =
    ap (λ x. negated_if (if x then not (is_minus w (integer_bits w b)) else is_minus w (integer_bits w b)) w (quotient w (magnitude w (integer_bits w a)) (magnitude w (integer_bits w b)))) (sign_is w a s h)
    ∙ ap (λ x. negated_if (signs_differ (is_negative a) x) w (quotient w (magnitude w (integer_bits w a)) (magnitude w (integer_bits w b)))) (sign_is w b s k)
    ∙ ap (λ x. negated_if (signs_differ (is_negative a) (is_negative b)) w (quotient w x (magnitude w (integer_bits w b)))) (magnitude_is w a s h)
    ∙ ap (λ x. negated_if (signs_differ (is_negative a) (is_negative b)) w (quotient w (nat_abs a) x)) (magnitude_is w b s k)
    ∙ ap (negated_if (signs_differ (is_negative a) (is_negative b)) w) (pick_false (nat_abs b == 0) (2 ^ w - 1) (nat_abs a / nat_abs b) n)
    ∙ signed_bits w (nat_abs a / nat_abs b) (signs_differ (is_negative a) (is_negative b)) (let l = held_small w a s h in omega (arith, div-le_self (nat_abs a) (nat_abs b)))
    ∙ ap (integer_bits w) (sym (quotient_is a b))

pub bits_rest : (w : ℕ) (a b : ℤ) → 1 ≤ w → Holds w a → Holds w b → (nat_abs b == 0) ≡ false
    → negated_if (is_minus w (integer_bits w a)) w (rest (magnitude w (integer_bits w a)) (magnitude w (integer_bits w b))) ≡ integer_bits w (int_mod a b)
bits_rest w a b s h k n =
    ap (λ x. negated_if x w (rest (magnitude w (integer_bits w a)) (magnitude w (integer_bits w b)))) (sign_is w a s h)
    ∙ ap (λ x. negated_if (is_negative a) w (rest x (magnitude w (integer_bits w b)))) (magnitude_is w a s h)
    ∙ ap (λ x. negated_if (is_negative a) w (rest (nat_abs a) x)) (magnitude_is w b s k)
    ∙ ap (negated_if (is_negative a) w) (pick_false (nat_abs b == 0) (nat_abs a) (nat_abs a % nat_abs b) n)
    ∙ signed_bits w (nat_abs a % nat_abs b) (is_negative a) (let l = held_small w a s h in omega (arith, mod-le (nat_abs a) (nat_abs b)))
    ∙ ap (integer_bits w) (sym (rest_is a b))

-- ---- signs that occur twice

minus_twice : (a : ℕ) → neg_ℤ (neg_ℤ (pos a)) ≡ pos a
minus_twice a = omega (arith, ints)

pub negated_twice : (w a : ℕ) → a < 2 ^ w → negated w (negated w a) ≡ a
negated_twice w a h = ap (λ n. negated w (negated w n)) (sym (mod-eq_of_lt h)) ∙ ap (negated w) (bits_negated w (pos a)) ∙ bits_negated w (neg_ℤ (pos a)) ∙ ap (integer_bits w) (minus_twice a) ∙ mod-eq_of_lt h
