-- Numbers modulo two to a width, worked out modulo two to the 128.
use Rattle.std.proofs.Common.{◌≡◌, ℕ, zero, suc, ◌+◌, ◌-◌, ◌*◌, ◌/◌, ◌%◌, ◌^◌, ◌<◌, ◌≤◌, ap, sym, subst, arith, ◌∙◌}
use Rattle.std.proofs.Math.Nat.{one-le-pow, mul-add-mod_self_right, mul_comm, mod-eq_of_lt}
use Rattle.std.specs.Prelude.{bit_and}
use Rattle.std.proofs.Math.Pow.{high, mod-mod-pow, pow_mono}
use Rattle.std.proofs.lemmas.Nat.{and_mask, mul-add-lt, pow-add}

pub top : (w : ℕ) → 1 ≤ 2 ^ w
top w = one-le-pow w 2 (omega arith)

all_but_one : (x y : ℕ) → 1 ≤ x → 1 ≤ y → (x - 1) * y + (y - 1) ≡ x * y - 1
all_but_one zero y g h = elim g [ ]
all_but_one (suc m) y g h = grind (arith, h)

split : (w : ℕ) → w ≤ 128 → 2 ^ 128 ≡ 2 ^ w * 2 ^ (128 - w)
split w h =
    let e : 128 ≡ w + (128 - w) = omega (arith, h) in
    ap (λ k. 2 ^ k) e ∙ pow-add 2 w (128 - w)

pub ones_are : (w : ℕ) → w ≤ 128 → (2 ^ 128 - 1) / 2 ^ (128 - w) ≡ 2 ^ w - 1
ones_are w h =
    let k = 128 - w in
    let small : 2 ^ k - 1 < 2 ^ k = omega (arith, top k) in
    ap (λ n. (n - 1) / 2 ^ k) (split w h)
    ∙ ap (λ n. n / 2 ^ k) (sym (all_but_one (2 ^ w) (2 ^ k) (top w) (top k)))
    ∙ high (2 ^ w - 1) k small

pub masked : (w n m : ℕ) → m ≡ 2 ^ w - 1 → bit_and n m ≡ n % 2 ^ w
masked w n m e = ap (bit_and n) e ∙ and_mask n w

pub again : (w n : ℕ) → w ≤ 128 → n % 2 ^ 128 % 2 ^ w ≡ n % 2 ^ w
again w n h =
    let e : (128 - w) + w ≡ 128 = omega (arith, h) in
    subst (λ k. n % 2 ^ k % 2 ^ w ≡ n % 2 ^ w) e (mod-mod-pow n (128 - w) w)

more_of : (x y a b : ℕ) → 1 ≤ x → b < y → a + (x * y - b) ≡ (x - 1) * y + (a + (y - b))
more_of zero y a b g h = elim g [ ]
more_of (suc m) y a b g h = grind (arith, h)

pub less : (w a b : ℕ) → w ≤ 128 → b < 2 ^ w → (a + (2 ^ 128 - b)) % 2 ^ 128 % 2 ^ w ≡ (a + (2 ^ w - b)) % 2 ^ w
less w a b h small =
    let k = 128 - w in
    again w (a + (2 ^ 128 - b)) h
    ∙ ap (λ n. (a + (n - b)) % 2 ^ w) (split w h ∙ mul_comm (2 ^ w) (2 ^ k))
    ∙ ap (λ n. n % 2 ^ w) (more_of (2 ^ k) (2 ^ w) a b (top k) small)
    ∙ mul-add-mod_self_right (2 ^ k - 1) (2 ^ w) (a + (2 ^ w - b))

pub joined_fits : (v w a b : ℕ) → v + w ≤ 128 → a < 2 ^ v → b < 2 ^ w → a * 2 ^ w + b < 2 ^ 128
joined_fits v w a b h g f =
    let e : 2 ^ w * 2 ^ v ≡ 2 ^ (v + w) = mul_comm (2 ^ w) (2 ^ v) ∙ sym (pow-add 2 v w) in
    let wide : 2 ^ (v + w) ≤ 2 ^ 128 = pow_mono h in
    let short : a * 2 ^ w + b < 2 ^ (v + w) = subst (λ n. a * 2 ^ w + b < n) e (mul-add-lt a (2 ^ w) b (2 ^ v) g f) in
    omega (arith, short, wide)

pub joined_is : (v w a b : ℕ) → v + w ≤ 128 → a < 2 ^ v → b < 2 ^ w → a * 2 ^ w % 2 ^ 128 ≡ a * 2 ^ w
joined_is v w a b h g f = let small : a * 2 ^ w < 2 ^ 128 = omega (arith, joined_fits v w a b h g f) in mod-eq_of_lt small
