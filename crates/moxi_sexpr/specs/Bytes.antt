-- Bytes by what they may appear in (SMT-LIB 2.6, section 3.1).
use Rattle.std.specs.Prelude.{◌≡◌, ◌==◌, ℕ, Bool, false, not, ◌&&◌, ◌||◌, nat_le, List, [], ◌∷◌, codes}
use Rattle.std.specs.List.{list_any}
use Rattle.text_core.specs.Bytes.{is_digit, is_letter}
use Rattle.moxi_sexpr.specs.declared.bytes.ByteSet.{ByteSet}
use Rattle.moxi_sexpr.specs.declared.bytes.ByteSet.TheVariants as set

-- the signs of a simple symbol
abbrev pub is_sign : ℕ → Bool
is_sign b = list_any (λ c. c == b) (codes "~!@$%^&*_-+=<>.?/")

-- tab, line feed, carriage return and space
abbrev pub is_blank : ℕ → Bool
is_blank b = (b == 9) || ((b == 10) || ((b == 13) || (b == 32)))

-- a comment ends before these
abbrev pub ends_line : ℕ → Bool
ends_line b = (b == 10) || (b == 13)

abbrev pub is_symbol_byte : ℕ → Bool
is_symbol_byte b = is_letter b || (is_digit b || is_sign b)

abbrev pub is_binary_digit : ℕ → Bool
is_binary_digit b = (b == 48) || (b == 49)

abbrev pub is_hex_digit : ℕ → Bool
is_hex_digit b = is_digit b || ((nat_le 65 b && nat_le b 70) || (nat_le 97 b && nat_le b 102))

-- any byte but a bar and a backslash
abbrev pub is_barred_byte : ℕ → Bool
is_barred_byte b = not ((b == 124) || (b == 92))

-- any byte before which a comment doesn't end
abbrev pub is_comment_byte : ℕ → Bool
is_comment_byte b = not (ends_line b)

abbrev pub belongs : ByteSet → ℕ → Bool
belongs set.Symbol b = is_symbol_byte b
belongs set.Decimal b = is_digit b
belongs set.Binary b = is_binary_digit b
belongs set.Hexadecimal b = is_hex_digit b
belongs set.Barred b = is_barred_byte b
belongs set.Comment b = is_comment_byte b

-- the first byte of the text, if there is one, fails the test
abbrev pub Stops : (ℕ → Bool) → List ℕ → Type 0
Stops p [] = Unit {0}
Stops p (b ∷ bs) = p b ≡ false
