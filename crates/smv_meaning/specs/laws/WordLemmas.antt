-- Literals and shift amounts are words.
use Rattle.std.proofs.Common.{◌≡◌, ℕ, zero, suc, ◌<◌, ◌≤◌, ◌^◌, true, nat_lt, nat_le, arith}
use Rattle.std.proofs.Math.Nat.{two-pow-succ}
use Rattle.std.proofs.lemmas.Bool.{le-leb}
use Rattle.std.proofs.lemmas.Bool.Decides.{Decides-ltb}
use Rattle.word_core.specs.Words.{BitVector, IsWord}
use Rattle.word_core.specs.declared.word.TheConstants.{WIDEST}
use Rattle.smv_meaning.specs.Operators.{word}
use Rattle.smv_meaning.specs.Checks.{is_literal}
use Rattle.smv_meaning.specs.laws.Booleans.{two_true}

pub literal_is : (w : BitVector) → IsWord w → is_literal w ≡ true
literal_is w h =
    two_true _ (nat_lt w.bits (2 ^ w.width)) (two_true (nat_le 1 w.width) (nat_le w.width WIDEST) (le-leb 1 w.width h.0) (le-leb w.width WIDEST h.1)) ((Decides-ltb w.bits (2 ^ w.width)).1 h.2)

pub below_power : (n : ℕ) → n < 2 ^ n
below_power zero = omega arith
below_power (suc n) = let h = below_power n in let e = two-pow-succ n in omega arith

-- a number up to the width is a word of that width
pub amount_is_word : (v : BitVector) (n : ℕ) → IsWord v → n ≤ v.width → IsWord (word v.width n)
amount_is_word v n h l = let small = below_power v.width in (h.0, h.1, omega (arith, l, small))
