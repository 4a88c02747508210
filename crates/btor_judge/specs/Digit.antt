-- What the bytes of a line's second part are, byte by byte.
use Rattle.std.specs.Prelude.{◌≡◌, ◌≤◌, ◌+◌, ◌-◌, ◌%◌, ◌^◌, ℕ, nat_lt, nat_le, Option, Some, None, List, [], ◌∷◌, length, IsSome, IfSome, ◌↔◌, if◌then◌else◌}
use Rattle.word_core.specs.Words.{BitVector, IsWord}
use Rattle.word_core.specs.declared.word.TheConstants.{WIDEST}
use Rattle.btor_witness.specs.declared.shape.Shape.{Shape}
use Rattle.btor_witness.specs.declared.shape.Shape.TheVariants.{Assignment}
use Rattle.btor_witness.specs.Bytes.{is_binary, all_binary, bits_after, word_of}
use Rattle.btor_judge.specs.declared.digits.Digits.{Digits}
use Rattle.btor_judge.specs.declared.digits.Digits.TheVariants.{Bits, Long, Other}

-- binary digits, as many as a word has or more, or something else
abbrev pub digits_of : List ℕ → Digits
digits_of part = if all_binary part then (if nat_le (length part) WIDEST then Bits (length part) (bits_after 0 part) else Long) else Other

-- twice a number and a digit more, in 128 bits
abbrev pub doubled : ℕ → ℕ → ℕ
doubled n b = ((n + n) % 2 ^ 128 + (b - 48)) % 2 ^ 128

-- one binary digit more
abbrev pub digit_next : Digits → ℕ → Digits
digit_next (Bits width n) b = if nat_lt width WIDEST then Bits (width + 1) (doubled n b) else Long
digit_next Long b = Long
digit_next Other b = Other

-- one byte more
abbrev pub digits_next : Digits → ℕ → Digits
digits_next digits b = if is_binary b then digit_next digits b else Other

-- the word of a width and a number, where there is one
abbrev pub IsWordOf : ℕ → ℕ → Option BitVector → Type 0
IsWordOf width n word =
    (IsSome word ↔ IsWord (record { width = width; bits = n })) × IfSome word (λ w. w ≡ record { width = width; bits = n })

-- the word that the digits spell
abbrev pub SpellsDigits : Digits → Option (Option BitVector) → Type 0
SpellsDigits (Bits width n) None = width ≡ 0
SpellsDigits (Bits width n) (Some word) = (1 ≤ width) × IsWordOf width n word
SpellsDigits Long word = word ≡ Some None
SpellsDigits Other word = word ≡ None

-- the word that one or more binary digits spell
abbrev pub word_from : List ℕ → Option (Option BitVector)
word_from [] = None
word_from (b ∷ bs) = if all_binary (b ∷ bs) then Some (word_of (b ∷ bs)) else None

-- a number and a word
abbrev pub assigned : Option ℕ → Option (Option BitVector) → Option Shape
assigned None word = None
assigned (Some i) None = None
assigned (Some i) (Some word) = Some (Assignment i word)
