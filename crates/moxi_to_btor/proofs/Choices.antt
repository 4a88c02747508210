-- The least width that holds a number of places.
use Rattle.std.proofs.Common.{◌≡◌, ℕ, suc, ◌+◌, ◌*◌, ◌<◌, ◌≤◌, ◌^◌, arith, ap, inl, inr}
use Rattle.std.proofs.Math.Nat.{pow-suc}
use Rattle.std.proofs.Math.Pow.{pow_mono}
use Rattle.std.proofs.lemmas.Bool.{cases_lt}
use Rattle.moxi_lines.specs.Codes.{choice_width}
use Rattle.moxi_lines.proofs.CodeLaws.{choice_holds, width_high}

pub doubled : (n w : ℕ) → n ≡ 2 ^ w → n * 2 ≡ 2 ^ (w + 1)
doubled n w e = let f : w + 1 ≡ suc w = omega arith in omega (arith, e, ap (λ k. 2 ^ k) f, pow-suc 2 w)

pub below_width : (count w : ℕ) → 2 ^ w < count → w + 1 ≤ choice_width count
below_width count w h =
    elim (cases_lt w (choice_width count)) [
      | inl l ↦ omega (arith, l)
      | inr g ↦ let p : 2 ^ choice_width count ≤ 2 ^ w = pow_mono g in absurd (omega (arith, p, h, choice_holds count))
    ]

pub width_small : (count w : ℕ) → 2 ^ w < count → count < 2 ^ 64 → w < 64
width_small count w h k =
    elim (cases_lt w 64) [
      | inl l ↦ l
      | inr g ↦ let p : 2 ^ 64 ≤ 2 ^ w = pow_mono g in absurd (omega (arith, p, h, k))
    ]

pub width_reached : (count w : ℕ) → 1 ≤ w → w ≤ choice_width count → count ≤ 2 ^ w → w ≡ choice_width count
width_reached count w low least h = let k : choice_width count ≤ w = width_high count w count low h in omega (arith, k, least)
