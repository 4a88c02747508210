-- The digits of a number, the last one first.
use Rattle.std.proofs.Common.{◌≡◌, ℕ, ◌+◌, ◌-◌, ◌/◌, ◌%◌, ◌^◌, ◌<◌, ◌≤◌, List, [], ◌∷◌, ◌++◌, length, drop, set, append_assoc, sym, ap, ◌∙◌, arith}
use Rattle.std.specs.Fmt.{decimal}
use Rattle.std.proofs.lemmas.Fmt.{decimal_step, decimal_digit, length-decimal-le}
use Rattle.std.proofs.lemmas.List.{drop-set, length-append}

-- a byte that is put before those that stand
pub before : (bytes : List ℕ) (at b : ℕ) → 1 ≤ at → at ≤ length bytes → drop (at - 1) (set bytes (at - 1) b) ≡ b ∷ drop at bytes
before bytes at b some within =
    let e : (at - 1) + 1 ≡ at = omega (arith, some) in
    drop-set bytes (at - 1) b (omega (arith, some, within)) ∙ ap (λ n. b ∷ drop n bytes) e

-- one digit more
pub one_more : (whole : List ℕ) (rest at : ℕ) (bytes : List ℕ) → 10 ≤ rest → rest < 2 ^ 32 → 1 ≤ at → at ≤ length bytes → decimal rest ++ drop at bytes ≡ whole
    → decimal (rest / 10) ++ drop (at - 1) (set bytes (at - 1) (48 + rest % 10)) ≡ whole
one_more whole rest at bytes many small some within is =
    ap (λ ds. decimal (rest / 10) ++ ds) (before bytes at (48 + rest % 10) some within)
    ∙ sym (append_assoc (decimal (rest / 10)) ((48 + rest % 10) ∷ []) (drop at bytes))
    ∙ ap (λ ds. ds ++ drop at bytes) (sym (decimal_step rest many (omega (arith, small))))
    ∙ is

pub one_less : (rest at end : ℕ) → 10 ≤ rest → rest < 2 ^ 32 → length (decimal rest) + end ≤ at + 10 → 12 ≤ end → length (decimal (rest / 10)) + end ≤ (at - 1) + 10
one_less rest at end many small room some =
    let e : length (decimal rest) ≡ length (decimal (rest / 10)) + 1 = ap length (decimal_step rest many (omega (arith, small))) ∙ length-append (decimal (rest / 10)) ((48 + rest % 10) ∷ []) in
    omega (arith, e, room, some)

-- the first digit
pub last_one : (whole : List ℕ) (rest at : ℕ) (bytes : List ℕ) → rest < 10 → 1 ≤ at → at ≤ length bytes → decimal rest ++ drop at bytes ≡ whole → drop (at - 1) (set bytes (at - 1) (48 + rest)) ≡ whole
last_one whole rest at bytes small some within is =
    before bytes at (48 + rest) some within ∙ ap (λ ds. ds ++ drop at bytes) (sym (decimal_digit rest small)) ∙ is

pub few_digits : (n : ℕ) → n < 2 ^ 32 → length (decimal n) ≤ 10
few_digits n small = length-decimal-le 10 n (omega arith) (omega (arith, small)) (omega (arith, small))

pub one_long : (n : ℕ) → n < 10 → length (decimal n) ≡ 1
one_long n small = ap length (decimal_digit n small)
