-- Bounds of a number that is read digit by digit.
use Rattle.std.proofs.Common.{◌≡◌, ◌-◌, ◌<◌, ◌≤◌, ◌^◌, ℕ, true, arith}
use Rattle.std.proofs.Math.Nat.{pow-le-pow_right}
use Rattle.std.proofs.lemmas.Bool.Decides.{nat_tests}
use Rattle.text_core.specs.Bytes.{is_digit}

-- a number of at most eight digits has room for one more
pub room : (n i : ℕ) → n < 10 ^ i → i ≤ 8 → n < 10 ^ 8
room n i below few = let more : 10 ^ i ≤ 10 ^ 8 = pow-le-pow_right {n = 10} (omega arith) few in omega arith

pub low_digit : (b : ℕ) → is_digit b ≡ true → b - 48 ≤ 9
low_digit b e = grind (arith, nat_tests)
