-- The tokens of a response: those of a MoXI script (SMT-LIB 2.6, section 3.1), but for comments, which a response doesn't have.
use Rattle.std.specs.Prelude.{◌==◌, ℕ, Bool, true, false, if◌then◌else◌, Option, Some, None, List, [], ◌∷◌, take, drop}
use Rattle.text_core.specs.Bytes.{is_digit}
use Rattle.moxi_sexpr.specs.declared.bytes.ByteSet.{ByteSet}
use Rattle.moxi_sexpr.specs.declared.bytes.ByteSet.TheVariants as set
use Rattle.moxi_sexpr.specs.Bytes.{belongs}
use Rattle.moxi_sexpr.specs.Atoms.{starts_simple}
use Rattle.moxi_sexpr.specs.Reading.{run_length, has_prime, past_prime, quote_length}
use Rattle.moxi_trace.specs.declared.tokens.Shape.{Shape}
use Rattle.moxi_trace.specs.declared.tokens.Shape.TheVariants as shape

-- a token's shape, its bytes without the signs around them, and what is behind it
abbrev pub Scan : Type 0
Scan = Option (Shape × List ℕ × List ℕ)

-- one or more bytes of the set
abbrev pub run_of : Shape → ByteSet → List ℕ → Scan
run_of s c text = if run_length (belongs c) text == 0 then None else Some (s, take (run_length (belongs c) text) text, drop (run_length (belongs c) text) text)

abbrev pub keyword_of : List ℕ → Scan
keyword_of text = if starts_simple text then run_of shape.Keyword set.Symbol text else None

-- a primed symbol stands nowhere in a response
abbrev pub symbol_shape : Bool → Shape
symbol_shape true = shape.Other
symbol_shape false = shape.Symbol

abbrev pub symbol_with : List ℕ → List ℕ → Scan
symbol_with bytes rest = Some (symbol_shape (has_prime rest), bytes, past_prime rest)

abbrev pub bare_of : List ℕ → Scan
bare_of text = if starts_simple text then symbol_with (take (run_length (belongs set.Symbol) text) text) (drop (run_length (belongs set.Symbol) text) text) else None

abbrev pub closed_by_bar : List ℕ → List ℕ → Scan
closed_by_bar bytes [] = None
closed_by_bar bytes (b ∷ bs) = if b == 124 then symbol_with bytes bs else None

abbrev pub barred_of : List ℕ → Scan
barred_of text = closed_by_bar (take (run_length (belongs set.Barred) text) text) (drop (run_length (belongs set.Barred) text) text)

-- a string stands nowhere in a response
abbrev pub quoted : List ℕ → Option ℕ → Scan
quoted text None = None
quoted text (Some n) = Some (shape.Other, take n text, drop 1 (drop n text))

abbrev pub digits_of : List ℕ → Scan
digits_of [] = None
digits_of (b ∷ bs) = if b == 98 then run_of shape.Binary set.Binary bs else (if b == 120 then run_of shape.Other set.Hexadecimal bs else None)

abbrev pub atom_at : ℕ → List ℕ → Scan
atom_at b bs =
    if b == 58 then keyword_of bs else (if b == 124 then barred_of bs else (if b == 34 then quoted bs (quote_length 0 false bs)
    else (if b == 35 then digits_of bs else (if is_digit b then run_of shape.Numeral set.Decimal (b ∷ bs) else bare_of (b ∷ bs)))))

-- the token that a text begins with
unfoldable pub token_of : List ℕ → Scan
token_of [] = None
token_of (b ∷ bs) = if b == 40 then Some (shape.Open, [], bs) else (if b == 41 then Some (shape.Close, [], bs) else atom_at b bs)
