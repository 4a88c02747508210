-- What a contract sees of a word.
use Rattle.std.specs.Prelude.{ℕ, ◌<◌, ◌≤◌, ◌^◌}
use Rattle.word_core.specs.declared.word.TheConstants.{WIDEST}

-- a width, and the number that the bits spell
pub record BitVector : Type 0 where
  pub width : ℕ
  pub bits : ℕ

-- a width from 1 to the greatest, and bits below two to that width
abbrev pub IsWord : BitVector → Type 0
IsWord a = (1 ≤ a.width) × (a.width ≤ WIDEST) × (a.bits < 2 ^ a.width)
