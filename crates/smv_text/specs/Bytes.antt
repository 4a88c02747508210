-- Bytes, and fronts of lists of bytes.
use Rattle.std.specs.Prelude.{◌≡◌, ◌==◌, ◌≤◌, ℕ, suc, Bool, ◌&&◌, ◌||◌, IsTrue, nat_le, if◌then◌else◌, Option, Some, None, List, [], ◌∷◌, ◌++◌, length}
use Rattle.std.specs.Str.{bytes_eq}

-- A to Z, a to z, and the underscore
abbrev pub is_letter : ℕ → Bool
is_letter b = (nat_le 65 b && nat_le b 90) || ((nat_le 97 b && nat_le b 122) || (b == 95))

-- tab, line feed, vertical tab, form feed, carriage return, and the space
abbrev pub is_blank : ℕ → Bool
is_blank b = (nat_le 9 b && nat_le b 13) || (b == 32)

-- how many bytes pass from the front on
abbrev pub front_length : (ℕ → List ℕ → Bool) → List ℕ → ℕ
front_length p [] = 0
front_length p (b ∷ bs) = if p b bs then suc (front_length p bs) else 0

-- Each byte of the front passes, with what is behind it.
abbrev pub AllPass : (ℕ → List ℕ → Bool) → List ℕ → List ℕ → Type 0
AllPass p [] rest = Unit {0}
AllPass p (b ∷ bs) rest = IsTrue (p b (bs ++ rest)) × AllPass p bs rest

-- The front has this form before the rest, and no longer front of the two has.
pub record IsLongest (P : List ℕ → List ℕ → Type 0) (front rest : List ℕ) : Type 0 where
  pub fits : P front rest
  pub longest : (f r : List ℕ) → f ++ r ≡ front ++ rest → P f r → length f ≤ length front

-- what stands beside the first of these spellings that is equal to the bytes
abbrev pub look_up : {A : Type 0} → List ℕ → List (List ℕ × A) → Option A
look_up bs [] = None
look_up bs (w ∷ ws) = if bytes_eq bs w.0 then Some w.1 else look_up bs ws
