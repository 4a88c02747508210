-- Laws of words on which the rules rest.
use Rattle.std.proofs.Common.{◌≡◌, ℕ, ◌+◌, ◌-◌, ◌*◌, ◌/◌, ◌%◌, ◌^◌, ◌<◌, ◌≤◌, min, Bool, true, false, cond, not, refl, ap, arith, ◌∙◌}
use Rattle.std.specs.Prelude.{bit_and, bit_or, bit_xor, nat_lt}
use Rattle.std.specs.Int.Bits.{and_self, or_add_and, xor_add_and}
use Rattle.std.proofs.lemmas.Nat.{and_comm, and-not, and_mask, pow-add}
use Rattle.std.proofs.Math.Nat.{mod-eq_of_lt, mod_self, div-one, add-mod_right}
use Rattle.std.proofs.lemmas.Bool.{lt-ltb}
use Rattle.word_core.proofs.Masks.{top}

-- numbers of w bits
pub not_not : (w a : ℕ) → a < 2 ^ w → 2 ^ w - 1 - (2 ^ w - 1 - a) ≡ a
not_not w a h = omega (arith, h)

pub not_small : (w a : ℕ) → 2 ^ w - 1 - a < 2 ^ w
not_small w a = omega (arith, top w)

pub and_not_zero : (w a : ℕ) → a < 2 ^ w → bit_and a (2 ^ w - 1 - a) ≡ 0
and_not_zero w a h =
    let e = and-not w a a h h in
    let f = and_self a in
    let g = and_comm a (2 ^ w - 1 - a) in
    omega (arith, e, f, g)

pub and_ones : (w a : ℕ) → a < 2 ^ w → bit_and a (2 ^ w - 1) ≡ a
and_ones w a h = and_mask a w ∙ mod-eq_of_lt h

pub and_zero : (a : ℕ) → bit_and a 0 ≡ 0
and_zero a = let e = and_mask a 0 in omega (arith, e)

pub or_self : (a : ℕ) → bit_or a a ≡ a
or_self a = omega (arith, or_add_and a a, and_self a)

pub or_zero : (a : ℕ) → bit_or a 0 ≡ a
or_zero a = omega (arith, or_add_and a 0, and_zero a)

pub or_ones : (w a : ℕ) → a < 2 ^ w → bit_or a (2 ^ w - 1) ≡ 2 ^ w - 1
or_ones w a h = omega (arith, or_add_and a (2 ^ w - 1), and_ones w a h)

pub or_not : (w a : ℕ) → a < 2 ^ w → bit_or a (2 ^ w - 1 - a) ≡ 2 ^ w - 1
or_not w a h = omega (arith, h, or_add_and a (2 ^ w - 1 - a), and_not_zero w a h)

pub xor_self : (a : ℕ) → bit_xor a a ≡ 0
xor_self a = omega (arith, xor_add_and a a, and_self a)

pub xor_zero : (a : ℕ) → bit_xor a 0 ≡ a
xor_zero a = omega (arith, xor_add_and a 0, and_zero a)

pub zero_xor : (a : ℕ) → bit_xor 0 a ≡ a
zero_xor a = omega (arith, xor_add_and 0 a, and_zero a, and_comm 0 a)

pub xor_not : (w a : ℕ) → a < 2 ^ w → bit_xor a (2 ^ w - 1 - a) ≡ 2 ^ w - 1
xor_not w a h = omega (arith, h, xor_add_and a (2 ^ w - 1 - a), and_not_zero w a h)

-- a number is not its own bitwise not, since their sum is odd
even_power : (w : ℕ) → 1 ≤ w → 2 ^ w ≡ 2 * 2 ^ (w - 1)
even_power w h = let e : w ≡ 1 + (w - 1) = omega (arith, h) in ap (λ k. 2 ^ k) e ∙ pow-add 2 1 (w - 1)

pub not_differs : (w a : ℕ) → 1 ≤ w → a < 2 ^ w → a ≡ 2 ^ w - 1 - a → ⊥
not_differs w a h lt e = omega (arith, even_power w h, lt, e)

pub zero_add : (a : ℕ) → 0 + a ≡ a
zero_add a = omega arith

pub add_zero : (a : ℕ) → a + 0 ≡ a
add_zero a = omega arith

pub less_nothing : (w a : ℕ) → a < 2 ^ w → (a + (2 ^ w - 0)) % 2 ^ w ≡ a
less_nothing w a h = let e : 2 ^ w - 0 ≡ 2 ^ w = omega arith in ap (λ n. (a + n) % 2 ^ w) e ∙ add-mod_right a (2 ^ w) ∙ mod-eq_of_lt h

pub less_itself : (w a : ℕ) → a < 2 ^ w → (a + (2 ^ w - a)) % 2 ^ w ≡ 0
less_itself w a h =
    let e : a + (2 ^ w - a) ≡ 2 ^ w = omega (arith, h) in
    ap (λ n. n % 2 ^ w) e ∙ mod_self (2 ^ w)

shift_choice : (t : Bool) (m : ℕ) → t ≡ true → cond t m 0 ≡ m
shift_choice t m h = ap (λ b. cond b m 0) h

pub left_nothing : (w a : ℕ) → 1 ≤ w → a < 2 ^ w → cond (nat_lt 0 w) ((a * 2 ^ 0) % 2 ^ w) 0 ≡ a
left_nothing w a g h =
    let e : a * 2 ^ 0 ≡ a = omega arith in
    shift_choice (nat_lt 0 w) ((a * 2 ^ 0) % 2 ^ w) (lt-ltb 0 w g) ∙ ap (λ n. n % 2 ^ w) e ∙ mod-eq_of_lt h

pub right_nothing : (w a : ℕ) → 1 ≤ w → cond (nat_lt 0 w) (a / 2 ^ 0) 0 ≡ a
right_nothing w a g = shift_choice (nat_lt 0 w) (a / 2 ^ 0) (lt-ltb 0 w g) ∙ div-one a

none_cut : (w n : ℕ) → n / 2 ^ min 0 w ≡ n
none_cut w n = let e : min 0 w ≡ 0 = omega arith in ap (λ k. n / 2 ^ k) e ∙ div-one n

pub signed_nothing : (t : Bool) (w a : ℕ) → a < 2 ^ w → cond t (2 ^ w - 1 - (2 ^ w - 1 - a) / 2 ^ min 0 w) (a / 2 ^ min 0 w) ≡ a
signed_nothing true w a h = ap (λ n. 2 ^ w - 1 - n) (none_cut w (2 ^ w - 1 - a)) ∙ not_not w a h
signed_nothing false w a h = none_cut w a

pub extended_by_nothing : (t : Bool) (w a : ℕ) → cond t (a + (2 ^ (w + 0) - 2 ^ w)) a ≡ a
extended_by_nothing true w a = let e : w + 0 ≡ w = omega arith in ap (λ n. a + (2 ^ n - 2 ^ w)) e ∙ omega arith
extended_by_nothing false w a = refl
