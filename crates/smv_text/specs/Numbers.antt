-- Numbers and word constants (NuSMV 2.6 User Manual, section 2.2, integer constants and word constants).
use Rattle.std.specs.Prelude.{◌==◌, ℕ, ◌^◌, not, ◌||◌, if◌then◌else◌, Option, Some, None, option_and_then, List, [], ◌∷◌, take, drop}
use Rattle.std.specs.List.{filter}
use Rattle.word_core.specs.Words.{BitVector}
use Rattle.word_core.specs.Digits.{below, digits_value, read_word}
use Rattle.smv_text.specs.Bytes.{front_length}

-- a decimal number, which is below two to 62 (this limit is our own)
abbrev pub number_of : List ℕ → Option ℕ
number_of bs = option_and_then (below (2 ^ 62)) (digits_value 10 bs)

-- the base of a letter: one of b, o, d and h, in either case
abbrev pub base_of : ℕ → Option ℕ
base_of b =
    if (b == 98) || (b == 66) then Some 2 else (if (b == 111) || (b == 79) then Some 8 else (if (b == 100) || (b == 68) then Some 10 else (if (b == 104) || (b == 72) then Some 16 else None)))

-- the digits without the `_` among them
abbrev pub bare : List ℕ → List ℕ
bare digits = filter (λ b. not (b == 95)) digits

-- the word of a width in decimal digits and of digits of a base behind a `_`
abbrev pub marked_word : ℕ → List ℕ → List ℕ → Option BitVector
marked_word base width [] = None
marked_word base width (mark ∷ digits) = option_and_then (λ w. read_word w base (bare digits)) (digits_value 10 width)

-- the width goes to the first `_`
abbrev pub parted_word : List ℕ → ℕ → Option BitVector
parted_word bs base = marked_word base (take (front_length (λ b rest. not (b == 95)) bs) bs) (drop (front_length (λ b rest. not (b == 95)) bs) bs)

-- what is behind the `0` and the `u` of a literal, with its base in front
abbrev pub based_word : List ℕ → Option BitVector
based_word [] = None
based_word (b ∷ bs) = option_and_then (parted_word bs) (base_of b)

-- what is behind a `u`, if it comes first
abbrev pub past_sign : List ℕ → List ℕ
past_sign [] = []
past_sign (b ∷ bs) = if b == 117 then bs else b ∷ bs

-- A word literal: `0`, `u` or nothing, the letter of a base, the width, `_`, and digits of the base, among which `_` may stand.
-- The width is 1 to `WIDEST` and the value is below two to it. A literal without a width isn't read (this is our own).
abbrev pub literal_of : List ℕ → Option BitVector
literal_of [] = None
literal_of (b ∷ bs) = if b == 48 then based_word (past_sign bs) else None
