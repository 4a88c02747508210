-- Identifiers and dotted names, by their bytes (NuSMV 2.6 User Manual, chapter 2, before section 2.1, and 2.3).
use Rattle.std.specs.Prelude.{ℕ, Bool, ◌==◌, ◌||◌, List, [], ◌∷◌, IsTrue}
use Rattle.std.specs.List.{list_all}
use Rattle.text_core.specs.Bytes.{is_digit}
use Rattle.smv_text.specs.Bytes.{is_letter}

-- a letter, `_` among them, a digit, `$`, `#`, or `-`
abbrev pub is_name_byte : ℕ → Bool
is_name_byte b = (is_letter b || (is_digit b || ((b == 36) || (b == 35)))) || (b == 45)

-- one of these, or `.`
abbrev pub is_dotted_byte : ℕ → Bool
is_dotted_byte b = is_name_byte b || (b == 46)

-- a letter first, then bytes of names
abbrev pub IsIdentifier : List ℕ → Type 0
IsIdentifier [] = ⊥
IsIdentifier (b ∷ bs) = IsTrue (is_letter b) × IsTrue (list_all is_name_byte bs)

-- a letter first, then bytes of names and dots
abbrev pub IsDottedName : List ℕ → Type 0
IsDottedName [] = ⊥
IsDottedName (b ∷ bs) = IsTrue (is_letter b) × IsTrue (list_all is_dotted_byte bs)
