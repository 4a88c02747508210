-- What digits of a base stand for.
use Rattle.std.specs.Prelude.{ℕ, ◌+◌, ◌-◌, ◌*◌, ◌^◌, ◌&&◌, nat_lt, nat_le, if◌then◌else◌, Option, Some, None, option_and_then, List, [], ◌∷◌}
use Rattle.word_core.specs.Words.{BitVector}
use Rattle.word_core.specs.declared.word.TheConstants.{WIDEST}

-- the number of a digit, in either case of its letter; no base has a digit of the number 16
abbrev pub digit_number : ℕ → ℕ
digit_number b =
    if nat_le 48 b && nat_le b 57 then b - 48 else (if nat_le 97 b && nat_le b 102 then b - 87 else (if nat_le 65 b && nat_le b 70 then b - 55 else 16))

-- the number that the digits stand for, with n in front of them
abbrev pub number_after : ℕ → ℕ → List ℕ → Option ℕ
number_after base n [] = Some n
number_after base n (b ∷ bs) = if nat_lt (digit_number b) base then number_after base (n * base + digit_number b) bs else None

-- the number that one or more digits stand for
abbrev pub digits_value : ℕ → List ℕ → Option ℕ
digits_value base [] = None
digits_value base (b ∷ bs) = number_after base 0 (b ∷ bs)

-- the number, where it is below the limit
abbrev pub below : ℕ → ℕ → Option ℕ
below limit n = if nat_lt n limit then Some n else None

-- the word of a number that is below two to the width
abbrev pub fitted : ℕ → ℕ → Option BitVector
fitted width n = if nat_lt n (2 ^ width) then Some (record { width = width; bits = n }) else None

-- the word that the digits stand for
abbrev pub read_word : ℕ → ℕ → List ℕ → Option BitVector
read_word width base digits =
    if nat_le 1 width && nat_le width WIDEST then option_and_then (fitted width) (digits_value base digits) else None
