-- Bytes that more than one language's lexer asks for.
use Rattle.std.specs.Prelude.{◌&&◌, ℕ, Bool, nat_le, List, [], ◌∷◌, ◌==◌, false, ◌||◌, if◌then◌else◌, true, Option, Some, None}
use Rattle.std.specs.Borrow.{Bor}

-- 0 to 9
abbrev pub is_digit : ℕ → Bool
is_digit b = nat_le 48 b && nat_le b 57

-- the first byte, or 0 where there is none
abbrev pub first_of : List ℕ → ℕ
first_of [] = 0
first_of (b ∷ bs) = b

-- the text begins with this byte
abbrev pub heads : ℕ → List ℕ → Bool
heads c [] = false
heads c (b ∷ bs) = b == c

abbrev pub is_letter : ℕ → Bool
is_letter b = (nat_le 65 b && nat_le b 90) || (nat_le 97 b && nat_le b 122)

-- two numbers are one where their digits are, but for zeros at the front
abbrev pub without_zeros : List ℕ → List ℕ
without_zeros [] = []
without_zeros (b ∷ bs) = if b == 48 then without_zeros bs else b ∷ bs

abbrev pub bytes_behind : Bor (List ℕ) → List ℕ
bytes_behind word = word.now

abbrev pub is_empty : {A : Type 0} → List A → Bool
is_empty [] = true
is_empty (x ∷ xs) = false

abbrev pub on_some : {A : Type 0} → Option A → ℕ → (A → ℕ) → ℕ
on_some None n f = n
on_some (Some x) n f = f x
