-- Binary digits and lines of a witness's text.
use Rattle.std.specs.Prelude.{◌≡◌, ◌==◌, ◌+◌, ◌-◌, ◌*◌, ℕ, Bool, true, ◌&&◌, ◌||◌, nat_le, if◌then◌else◌, Option, Some, None, List, [], ◌∷◌, ◌++◌, length}
use Rattle.word_core.specs.Words.{BitVector}
use Rattle.word_core.specs.declared.word.TheConstants.{WIDEST}
use Rattle.btor_tree.specs.Parts.{Parts, parts}
use Rattle.btor_tree.specs.Bytes.{number_after}
use Rattle.text_core.proofs.Numerals.{all_digits}

-- a binary digit
abbrev pub is_binary : ℕ → Bool
is_binary b = (b == 48) || (b == 49)

-- binary digits alone
abbrev pub all_binary : List ℕ → Bool
all_binary [] = true
all_binary (b ∷ bs) = is_binary b && all_binary bs

-- the number of binary digits that follow those of n
abbrev pub bits_after : ℕ → List ℕ → ℕ
bits_after n [] = n
bits_after n (b ∷ bs) = bits_after (2 * n + (b - 48)) bs

-- the word that binary digits spell, where there are no more than a word has
abbrev pub word_of : List ℕ → Option BitVector
word_of digits = if nat_le (length digits) WIDEST then Some (record { width = length digits; bits = bits_after 0 digits }) else None

-- a CR at the end of a line is passed over
abbrev pub without_return : List ℕ → List ℕ
without_return [] = []
without_return (b ∷ []) = if b == 13 then [] else (b ∷ [])
without_return (b ∷ c ∷ bs) = b ∷ without_return (c ∷ bs)

-- the parts of a line
abbrev pub line_parts : List ℕ → Parts
line_parts raw = parts (without_return raw)

-- the digits at the front of a line, and the number that they spell
pub record IsNumberFront (line : List ℕ) (number : ℕ) (rest : List ℕ) : Type 0 where
  pub digits : List ℕ
  pub cut : line ≡ digits ++ rest
  pub all : all_digits digits ≡ true
  pub value : number_after 0 digits ≡ Some number
