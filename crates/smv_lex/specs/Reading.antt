-- What the scanning functions compute.
use Rattle.std.specs.Prelude.{option_and_then, ◌==◌, ℕ, suc, Bool, true, false, not, ◌&&◌, ◌||◌, if◌then◌else◌, nat_le, Option, Some, None, List, [], ◌∷◌, length, take, drop}
use Rattle.std.specs.Borrow.{Bor}
use Rattle.word_core.specs.Words.{BitVector}
use Rattle.word_core.specs.Digits.{digits_value, read_word}
use Rattle.text_core.specs.declared.place.Place.{Place}
use Rattle.smv_text.specs.declared.token.TokenKind.{TokenKind}
use Rattle.smv_text.specs.declared.token.Reserved.{Reserved}
use Rattle.smv_text.specs.declared.token.Sign.{Sign}
use Rattle.smv_text.specs.declared.token.Sign.TheVariants as sign
use Rattle.text_core.specs.Bytes.{is_digit, heads, on_some}
use Rattle.smv_text.specs.Bytes.{is_letter, is_blank, front_length}
use Rattle.text_core.specs.Places.{after}
use Rattle.smv_text.specs.Signs.{sign_bytes}
use Rattle.smv_text.specs.Numbers.{bare}
use Rattle.smv_text.specs.Words.{in_word, in_run, kind_of}
use Rattle.smv_text.specs.Lexing.{Next, finished, go, bad, token_at, refusal_at, opened_by, most_brackets}

-- Whether a byte goes on with a gap, and whether the gap is then inside a comment.
abbrev pub gap_step : Bool → ℕ → List ℕ → Option Bool
gap_step true b rest = Some (not (b == 10))
gap_step false b rest = if is_blank b then Some false else (if (b == 45) && heads 45 rest then Some true else None)

-- how long the gap is that a text begins with, outside or inside a comment
abbrev pub gap_length : Bool → List ℕ → ℕ
gap_length inside [] = 0
gap_length inside (b ∷ bs) = on_some (gap_step inside b bs) 0 (λ i. suc (gap_length i bs))

-- a byte that goes on with a word, whatever is behind it
abbrev pub is_word_byte : ℕ → Bool
is_word_byte b = is_letter b || (is_digit b || ((b == 36) || (b == 35)))

-- a comment is at the front
abbrev pub begins_comment : List ℕ → Bool
begins_comment text = heads 45 text && heads 45 (drop 1 text)

-- the longest sign that begins with a colon, where this text is behind it; and so on
abbrev pub colon_sign : List ℕ → Sign
colon_sign rest = if heads 61 rest then sign.Assign else (if heads 58 rest then sign.Concat else sign.Colon)

abbrev pub dot_sign : List ℕ → Sign
dot_sign rest = if heads 46 rest then sign.Range else sign.Dot

abbrev pub bang_sign : List ℕ → Sign
bang_sign rest = if heads 61 rest then sign.Unequal else sign.Not

abbrev pub less_sign : List ℕ → Sign
less_sign rest =
    if heads 61 rest then sign.LessEqual else (if heads 60 rest then sign.ShiftLeft else (if heads 45 rest && heads 62 (drop 1 rest) then sign.Iff else sign.Less))

abbrev pub greater_sign : List ℕ → Sign
greater_sign rest = if heads 61 rest then sign.GreaterEqual else (if heads 62 rest then sign.ShiftRight else sign.Greater)

abbrev pub dash_sign : List ℕ → Sign
dash_sign rest = if heads 62 rest then sign.Implies else sign.Minus

abbrev pub slash_sign : List ℕ → Option Sign
slash_sign rest = if begins_comment rest then None else Some sign.Divide

-- the longest sign at a byte with this text behind it
abbrev pub sign_at : ℕ → List ℕ → Option Sign
sign_at b rest =
    if b == 40 then Some sign.Open else (if b == 41 then Some sign.Close else (if b == 123 then Some sign.OpenBrace else (if b == 125 then Some sign.CloseBrace else (if b == 91 then Some sign.OpenBracket else (if b == 93 then Some sign.CloseBracket else (if b == 44 then Some sign.Comma else (if b == 59 then Some sign.Semicolon else (if b == 58 then Some (colon_sign rest) else (if b == 46 then Some (dot_sign rest) else (if b == 61 then Some sign.Equal else (if b == 33 then Some (bang_sign rest) else (if b == 60 then Some (less_sign rest) else (if b == 62 then Some (greater_sign rest) else (if b == 38 then Some sign.And else (if b == 124 then Some sign.Or else (if b == 43 then Some sign.Plus else (if b == 45 then Some (dash_sign rest) else (if b == 42 then Some sign.Times else (if b == 47 then slash_sign rest else (if b == 63 then Some sign.Question else None))))))))))))))))))))

abbrev pub sign_length : Option Sign → ℕ
sign_length s = on_some s 0 (λ s. length (sign_bytes s))

-- 0 where no lexeme stands
abbrev pub lexeme_length : List ℕ → ℕ
lexeme_length [] = 0
lexeme_length (b ∷ bs) =
    if is_letter b then suc (front_length in_word bs) else (if is_digit b then suc (front_length in_run bs) else sign_length (sign_at b bs))

-- what stands next at a lexeme with the rest behind it, where n brackets stand open
abbrev pub kinded : ℕ → Place → List ℕ → List ℕ → Option TokenKind → Next
kinded n at lexeme rest None = bad (refusal_at 3 at)
kinded n at lexeme rest (Some kind) =
    if nat_le (opened_by n kind) most_brackets then go (token_at at lexeme kind) (after at lexeme) rest else bad (refusal_at 4 at)

-- what stands next at a text with a lexeme of this length
abbrev pub sized : ℕ → Place → List ℕ → ℕ → Next
sized n at text size =
    if size == 0 then bad (refusal_at 2 at) else kinded n at (take size text) (drop size text) (kind_of (take size text))

-- what stands next behind a gap
abbrev pub behind : ℕ → Place → List ℕ → Next
behind n at [] = finished
behind n at (b ∷ bs) = sized n at (b ∷ bs) (lexeme_length (b ∷ bs))

-- what stands next
unfoldable pub next_of : ℕ → Place → List ℕ → Next
next_of n at text = behind n (after at (take (gap_length false text) text)) (drop (gap_length false text) text)

-- a word that is no identifier, and which reserved one it is, if it is supported
abbrev pub Keyword : Type 0
Keyword = List ℕ × Option Reserved

-- a row of a table of words
abbrev pub row : Bor (List ℕ) × Option Reserved → Keyword
row w = (w.0.now, w.1)

-- the last byte, or 0 where there is none
abbrev pub last_of : List ℕ → ℕ
last_of [] = 0
last_of (b ∷ []) = b
last_of (b ∷ c ∷ bs) = last_of (c ∷ bs)

-- of the words that are no identifiers, none ends with a digit but one of five bytes
abbrev pub may_be_keyword : List ℕ → Bool
may_be_keyword w = (length w == 5) || not (is_digit (last_of w))

-- the byte isn't `_`
abbrev pub is_unmarked : ℕ → List ℕ → Bool
is_unmarked b rest = not (b == 95)

-- the word of a width in decimal digits and of digits of a base
abbrev pub sized_word : ℕ → List ℕ → List ℕ → Option BitVector
sized_word base width digits = option_and_then (λ w. read_word w base (bare digits)) (digits_value 10 width)
