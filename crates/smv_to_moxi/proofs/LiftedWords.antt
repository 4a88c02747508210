-- Integers in two's complement.
use Rattle.std.proofs.Common.{◌≡◌, ℕ, zero, suc, ◌+◌, ◌*◌, ◌^◌, ◌-◌, ◌%◌, ◌<◌, ◌≤◌, pos, ◌-ℤ◌, ap, arith}
use mir.Val.{to_z, of_z}
use mir.Syntax.{w64, w128}
use Rattle.std.proofs.Math.Nat.{pow-suc}
use Rattle.std.proofs.Math.Pow.{pow_mono}
use Rattle.std.proofs.lemmas.Int.{ints}

-- a number of so many bits whose highest is set
pub negative : (bits power half : ℕ) → power ≡ half + half → half ≤ 9223372036854775808 → half ≤ bits → bits < power
    → to_z w64 (of_z w64 (to_z w128 (of_z w128 (to_z w128 bits -ℤ to_z w128 (1 * power % 340282366920938463463374607431768211456))))) ≡ pos bits -ℤ pos power
negative bits power half e l m f = omega (arith, ints, e, l, m, f)

pub two_halves : (width : ℕ) → 1 ≤ width → 2 ^ width ≡ 2 ^ (width - 1) + 2 ^ (width - 1)
two_halves zero l = absurd (omega (arith, l))
two_halves (suc n) l =
    let double : 2 ^ suc n ≡ 2 ^ n * 2 = pow-suc 2 n in
    let one : suc n - 1 ≡ n = omega arith in
    let before : 2 ^ (suc n - 1) ≡ 2 ^ n = ap (λ k. 2 ^ k) one in
    omega (arith, double, before)

pub half_small : (width : ℕ) → width ≤ 64 → 2 ^ (width - 1) ≤ 9223372036854775808
half_small width l = pow_mono {i = width - 1} {j = 63} (omega (arith, l))
