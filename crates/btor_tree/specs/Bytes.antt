-- Lines, parts and numbers of a text, byte by byte.
use Rattle.std.specs.Prelude.{◌≡◌, ◌==◌, ◌+◌, ◌-◌, ◌*◌, ℕ, min, Bool, true, false, ◌&&◌, nat_lt, if◌then◌else◌, Option, Some, None, List, [], ◌∷◌}
use Rattle.std.specs.Borrow.{Bor}
use Rattle.text_core.specs.Bytes.{is_digit}
use Rattle.word_core.specs.Digits.{digit_number}
use Rattle.btor_tree.specs.Parts.{Parts, cap, is_blank, parts}

-- the length of the part that begins here
abbrev pub part_length : List ℕ → ℕ
part_length [] = 0
part_length (b ∷ bs) = if is_blank b then 0 else part_length bs + 1

-- the length of the line that begins here
abbrev pub line_length : List ℕ → ℕ
line_length [] = 0
line_length (b ∷ bs) = if b == 10 then 0 else line_length bs + 1

-- the number of digits behind those of n, capped digit by digit
abbrev pub number_after : ℕ → List ℕ → Option ℕ
number_after n [] = Some n
number_after n (b ∷ bs) = if is_digit b then number_after (min (10 * n + (b - 48)) cap) bs else None

-- are these digits of a base?
abbrev pub all_of_base : ℕ → List ℕ → Bool
all_of_base base [] = true
all_of_base base (b ∷ bs) = nat_lt (digit_number b) base && all_of_base base bs

-- are these one or more digits of a base?
abbrev pub are_digits : ℕ → List ℕ → Bool
are_digits base [] = false
are_digits base (b ∷ bs) = all_of_base base (b ∷ bs)

-- the first of these parts, and the bytes of the others
abbrev pub IsFirstPart : Option (Bor (List ℕ) × Bor (List ℕ)) → Parts → Type 0
IsFirstPart None ps = ps ≡ []
IsFirstPart (Some x) ps = ps ≡ x.0.now ∷ parts x.1.now
