-- How long tokens are.
use Rattle.std.specs.Prelude.{◌==◌, ◌||◌, ℕ, Bool, not, nat_le, nat_eq, List, [], ◌∷◌, length, map, min, max, suc, if◌then◌else◌}
use Rattle.std.specs.List.{starts_with}
use Rattle.text_core.specs.Bytes.{is_digit, is_letter}
use Rattle.text_core.specs.declared.place.Kind.{Kind}
use Rattle.text_core.specs.declared.place.Kind.TheVariants.{S, M, B, X, Y}
use Rattle.explain_core.specs.declared.tokens.TheConstants.{SIGNS}

-- a byte that begins a name or a number: a letter, a digit or `_`
abbrev pub is_word_byte : ℕ → Bool
is_word_byte b = is_letter b || (is_digit b || (b == 95))

-- a byte with which a word goes on wherever it stands: also `$` and `#`
abbrev pub is_name_byte : ℕ → Bool
is_name_byte b = is_word_byte b || ((b == 36) || (b == 35))

-- a word goes on with this byte before those: `-` but not before `>`, `.` before a letter
abbrev pub goes_on : ℕ → List ℕ → Bool
goes_on b [] = is_name_byte b
goes_on b (next ∷ more) = if b == 45 then not (next == 62) else (if b == 46 then is_letter next else is_name_byte b)

abbrev pub word_length : List ℕ → ℕ
word_length [] = 0
word_length (b ∷ bs) = if goes_on b bs then suc (word_length bs) else 0

-- the length of the first of these signs with which the bytes begin, or 1
abbrev pub sign_length : List (List ℕ) → List ℕ → ℕ
sign_length [] rest = 1
sign_length (sign ∷ signs) rest = if starts_with nat_eq rest sign then length sign else sign_length signs rest

abbrev pub word_or_sign : List ℕ → ℕ
word_or_sign [] = 0
word_or_sign (b ∷ bs) = if is_word_byte b then word_length (b ∷ bs) else sign_length (map (λ sign. sign.now) SIGNS) (b ∷ bs)

-- the length of the token of SMV at the front, of a path as a whole
abbrev pub smv_token_length : List ℕ → ℕ
smv_token_length rest = min (max (word_or_sign rest) 1) (length rest)

-- a blank or control byte, a bracket, a quote, `;` or a bar
abbrev pub ends_symbol : ℕ → Bool
ends_symbol b = nat_le b 32 || ((b == 40) || ((b == 41) || ((b == 34) || ((b == 59) || (b == 124)))))

abbrev pub symbol_length : List ℕ → ℕ
symbol_length [] = 0
symbol_length (b ∷ bs) = if ends_symbol b then 0 else suc (symbol_length bs)

-- the first byte of a script, which may be a bracket, with the symbol behind it
abbrev pub moxi_token_length : List ℕ → ℕ
moxi_token_length [] = 0
moxi_token_length (b ∷ bs) = suc (symbol_length bs)

-- the length of the token at the front, by the language of the kind; 0 where places have no column
abbrev pub token_length : Kind → List ℕ → ℕ
token_length (S n) rest = smv_token_length rest
token_length (M n) rest = moxi_token_length rest
token_length (B n) rest = 0
token_length (X n) rest = 0
token_length (Y n) rest = 0
