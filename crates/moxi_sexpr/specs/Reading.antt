-- What the scanning functions compute.
use Rattle.std.specs.Prelude.{◌==◌, ◌+◌, ◌-◌, ℕ, zero, suc, Bool, true, false, not, nat_lt, if◌then◌else◌, Option, Some, None, Result, Ok, Err, List, [], ◌∷◌, length, take, drop}
use Rattle.moxi_sexpr.specs.declared.form.Atom as form
use Rattle.moxi_sexpr.specs.declared.form.Atom.TheVariants as atoms
use Rattle.moxi_sexpr.specs.declared.scan.Spelling.{Spelling}
use Rattle.moxi_sexpr.specs.declared.scan.Spelling.TheVariants as how
use Rattle.moxi_sexpr.specs.declared.read.TokenKind.{TokenKind}
use Rattle.moxi_sexpr.specs.declared.read.TokenKind.TheVariants.{Open, Close, Atom}
use Rattle.text_core.specs.Bytes.{is_digit, heads, on_some}
use Rattle.moxi_sexpr.specs.Bytes.{is_symbol_byte, is_binary_digit, is_hex_digit, is_barred_byte, is_blank, ends_line}
use Rattle.moxi_sexpr.specs.Atoms.{starts_simple, atom_of}
use Rattle.moxi_sexpr.specs.Lexing.{Mark, Next, finished, go, bad, limit, refusal, past, token}

-- whether a byte goes on with blanks and comments, and whether a comment stands open behind it
abbrev pub gap_step : Bool → ℕ → Option Bool
gap_step true b = Some (not (ends_line b))
gap_step false b = if is_blank b then Some false else (if b == 59 then Some true else None)

abbrev pub gap_length : Bool → List ℕ → ℕ
gap_length inside [] = 0
gap_length inside (b ∷ bs) = on_some (gap_step inside b) 0 (λ i. suc (gap_length i bs))

-- how many bytes pass from the front on
abbrev pub run_length : (ℕ → Bool) → List ℕ → ℕ
run_length p [] = 0
run_length p (b ∷ bs) = if p b then suc (run_length p bs) else 0

-- a spelling, the bytes between its signs, and what is behind it
abbrev pub Scan : Type 0
Scan = Option (Spelling × List ℕ × List ℕ)

abbrev pub run_of : Spelling → (ℕ → Bool) → List ℕ → Scan
run_of h p text = if run_length p text == 0 then None else Some (h, take (run_length p text) text, drop (run_length p text) text)

abbrev pub simple_of : Spelling → List ℕ → Scan
simple_of h text = if starts_simple text then run_of h is_symbol_byte text else None

abbrev pub has_prime : List ℕ → Bool
has_prime text = heads 39 text

abbrev pub past_prime : List ℕ → List ℕ
past_prime text = if heads 39 text then drop 1 text else text

abbrev pub with_prime : (Bool → Spelling) → List ℕ → List ℕ → Scan
with_prime h raw rest = Some (h (has_prime rest), raw, past_prime rest)

abbrev pub bare_of : List ℕ → Scan
bare_of text = if starts_simple text then with_prime how.Bare (take (run_length is_symbol_byte text) text) (drop (run_length is_symbol_byte text) text) else None

-- the symbol at the front of a text that begins with a simple symbol, and what is behind it
abbrev pub symbol_of : List ℕ → form.Atom
symbol_of text = atoms.Symbol (take (run_length is_symbol_byte text) text) (has_prime (drop (run_length is_symbol_byte text) text))

abbrev pub past_symbol : List ℕ → List ℕ
past_symbol text = past_prime (drop (run_length is_symbol_byte text) text)

abbrev pub closed_by_bar : List ℕ → List ℕ → Scan
closed_by_bar raw [] = None
closed_by_bar raw (b ∷ bs) = if b == 124 then with_prime how.Barred raw bs else None

abbrev pub barred_of : List ℕ → Scan
barred_of text = closed_by_bar (take (run_length is_barred_byte text) text) (drop (run_length is_barred_byte text) text)

-- n and the bytes before the quote that closes a string; with a quote pending, it closes unless another follows
abbrev pub quote_length : ℕ → Bool → List ℕ → Option ℕ
quote_length n false [] = None
quote_length n false (b ∷ bs) = if b == 34 then quote_length n true bs else quote_length (n + 1) false bs
quote_length n true [] = Some n
quote_length n true (b ∷ bs) = if b == 34 then quote_length (n + 2) false bs else Some n

abbrev pub quoted : List ℕ → Option ℕ → Scan
quoted text None = None
quoted text (Some n) = Some (how.Quote, take n text, drop 1 (drop n text))

abbrev pub quote_of : List ℕ → Scan
quote_of text = quoted text (quote_length 0 false text)

abbrev pub digits_of : List ℕ → Scan
digits_of [] = None
digits_of (b ∷ bs) = if b == 98 then run_of how.Binary is_binary_digit bs else (if b == 120 then run_of how.Hex is_hex_digit bs else None)

abbrev pub scan_of : List ℕ → Scan
scan_of [] = None
scan_of (b ∷ bs) =
    if b == 58 then simple_of how.Keyword bs else (if b == 124 then barred_of bs else (if b == 34 then quote_of bs else (if b == 35 then digits_of bs else (if is_digit b then run_of how.Numeral is_digit (b ∷ bs) else bare_of (b ∷ bs)))))

-- the bytes with each second quote of a pair left out
abbrev pub undoubled : Bool → List ℕ → List ℕ
undoubled skip [] = []
undoubled true (b ∷ bs) = undoubled false bs
undoubled false (b ∷ bs) = b ∷ undoubled (b == 34) bs

-- the name of which these bytes are between the signs
abbrev pub value_of : Spelling → List ℕ → List ℕ
value_of how.Quote raw = undoubled false raw
value_of (how.Bare primed) raw = raw
value_of (how.Barred primed) raw = raw
value_of how.Keyword raw = raw
value_of how.Numeral raw = raw
value_of how.Binary raw = raw
value_of how.Hex raw = raw

abbrev pub token_from : Scan → Option (TokenKind × List ℕ)
token_from None = None
token_from (Some x) = Some (Atom (atom_of x.0 (value_of x.0 x.1)), x.2)

-- the token at the front of a text, and what is behind it
abbrev pub token_of : List ℕ → Option (TokenKind × List ℕ)
token_of [] = None
token_of (b ∷ bs) = if b == 40 then Some (Open, bs) else (if b == 41 then Some (Close, bs) else token_from (scan_of (b ∷ bs)))

-- how many lines end
abbrev pub line_ends : List ℕ → ℕ
line_ends [] = 0
line_ends (b ∷ bs) = if b == 10 then suc (line_ends bs) else line_ends bs

-- how many bytes are behind the last end of a line, or n more where no line ends
abbrev pub last_line : ℕ → List ℕ → ℕ
last_line n [] = n
last_line n (b ∷ bs) = if b == 10 then last_line 0 bs else last_line (suc n) bs

-- how many brackets stand open behind a token, or the number of the refusal
abbrev pub nested : TokenKind → ℕ → Result ℕ ℕ
nested Open n = if nat_lt n limit then Ok (suc n) else Err 3
nested Close zero = Err 1
nested Close (suc n) = Ok n
nested (Atom a) n = Ok n

-- the bytes before the rest
abbrev pub front : List ℕ → List ℕ → List ℕ
front text rest = take (length text - length rest) text

abbrev pub turned : Mark → TokenKind → List ℕ → List ℕ → Result ℕ ℕ → Next
turned m k bytes rest (Ok n) = go (token m.place k) (past m bytes n) rest
turned m k bytes rest (Err number) = bad (refusal number m.place)

abbrev pub behind : Mark → List ℕ → Option (TokenKind × List ℕ) → Next
behind m text None = bad (refusal 1 m.place)
behind m text (Some x) = turned m x.0 (front text x.1) x.1 (nested x.0 m.depth)

-- what stands next, where no blank and no comment does
abbrev pub stands : Mark → List ℕ → Next
stands m [] = if m.depth == 0 then finished else bad (refusal 2 m.place)
stands m (b ∷ bs) = behind m (b ∷ bs) (token_of (b ∷ bs))

unfoldable pub next_of : Mark → List ℕ → Next
next_of m text = stands (past m (take (gap_length false text) text) m.depth) (drop (gap_length false text) text)
