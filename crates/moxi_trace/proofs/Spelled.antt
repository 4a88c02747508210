-- Tokens as they are printed.
use Rattle.std.proofs.Common.{◌≡◌, ℕ, Bool, true, false, not, cond, eqb, ◌&&◌, Some, List, [], ◌∷◌, ◌++◌, drop, refl, ap, ◌∙◌}
use Rattle.std.specs.List.{list_all}
use Rattle.std.proofs.lemmas.List.{append_assoc, append-nil}
use Rattle.std.proofs.lemmas.Bool.{and_parts, cond-true, cond-false}
use Rattle.text_core.specs.Bytes.{is_digit}
use Rattle.moxi_sexpr.specs.Bytes.{Stops, belongs, is_symbol_byte, is_binary_digit, is_barred_byte}
use Rattle.moxi_sexpr.specs.Atoms.{is_run, is_simple, starts_simple, spelled}
use Rattle.moxi_sexpr.specs.declared.scan.Spelling.TheVariants as how
use Rattle.moxi_sexpr.specs.Printing.{is_among, reserved_words}
use Rattle.moxi_sexpr.specs.Reading.{run_length}
use Rattle.moxi_sexpr.proofs.Runs.{other_byte, run_take, run_drop, run_some, run_all, simple_all, simple_starts}
use Rattle.moxi_sexpr.specs.declared.bytes.ByteSet.{ByteSet}
use Rattle.moxi_sexpr.specs.declared.bytes.ByteSet.TheVariants as set
use Rattle.moxi_trace.specs.declared.tokens.Shape.{Shape}
use Rattle.moxi_trace.specs.declared.tokens.Shape.TheVariants as shape
use Rattle.moxi_trace.specs.Texts.{symbol_text}
use Rattle.moxi_trace.specs.Tokens.{run_of, symbol_with, bare_of, closed_by_bar, barred_of, token_of}

-- no name and no number goes on with this byte
pub record Parts (c : ℕ) : Type 0 where
  pub symbol : is_symbol_byte c ≡ false
  pub digit : is_digit c ≡ false
  pub binary : is_binary_digit c ≡ false
  pub prime : eqb c 39 ≡ false

pub blank_parts : Parts 32
blank_parts = record { symbol = refl; digit = refl; binary = refl; prime = refl }

pub closing_parts : Parts 41
closing_parts = record { symbol = refl; digit = refl; binary = refl; prime = refl }

pub opening_token : (rest : List ℕ) → token_of (40 ∷ rest) ≡ Some (shape.Open, [], rest)
unfolding token_of
opening_token rest = refl

pub closing_token : (rest : List ℕ) → token_of (41 ∷ rest) ≡ Some (shape.Close, [], rest)
unfolding token_of
closing_token rest = refl

run_is : (s : Shape) (k : ByteSet) (raw rest : List ℕ) → is_run (belongs k) raw ≡ true → Stops (belongs k) rest → run_of s k (raw ++ rest) ≡ Some (s, raw, rest)
run_is s k raw rest e f =
    let p = belongs k in
    let a = run_all p raw e in
    let n : eqb (run_length p (raw ++ rest)) 0 ≡ false = run_some p raw rest e f in
    rw n (ap (λ x. Some (s, x, drop (run_length p (raw ++ rest)) (raw ++ rest))) (run_take p raw rest a f) ∙ ap (λ x. Some (s, raw, x)) (run_drop p raw rest a f))

symbol_first : (b : ℕ) (bs : List ℕ) → is_symbol_byte b ≡ true → is_digit b ≡ false → token_of (b ∷ bs) ≡ bare_of (b ∷ bs)
unfolding token_of
symbol_first b bs e d =
    let P = is_symbol_byte in
    let a : eqb b 40 ≡ false = other_byte P b 40 e refl in
    let c : eqb b 41 ≡ false = other_byte P b 41 e refl in
    let f : eqb b 58 ≡ false = other_byte P b 58 e refl in
    let g : eqb b 124 ≡ false = other_byte P b 124 e refl in
    let h : eqb b 34 ≡ false = other_byte P b 34 e refl in
    let i : eqb b 35 ≡ false = other_byte P b 35 e refl in
    cond-false _ _ _ a ∙ cond-false _ _ _ c ∙ cond-false _ _ _ f ∙ cond-false _ _ _ g ∙ cond-false _ _ _ h ∙ cond-false _ _ _ i ∙ cond-false _ _ _ d

digit_first : (b : ℕ) (bs : List ℕ) → is_digit b ≡ true → token_of (b ∷ bs) ≡ run_of shape.Numeral set.Decimal (b ∷ bs)
unfolding token_of
digit_first b bs e =
    let P = is_digit in
    let a : eqb b 40 ≡ false = other_byte P b 40 e refl in
    let c : eqb b 41 ≡ false = other_byte P b 41 e refl in
    let f : eqb b 58 ≡ false = other_byte P b 58 e refl in
    let g : eqb b 124 ≡ false = other_byte P b 124 e refl in
    let h : eqb b 34 ≡ false = other_byte P b 34 e refl in
    let i : eqb b 35 ≡ false = other_byte P b 35 e refl in
    cond-false _ _ _ a ∙ cond-false _ _ _ c ∙ cond-false _ _ _ f ∙ cond-false _ _ _ g ∙ cond-false _ _ _ h ∙ cond-false _ _ _ i ∙ cond-true _ _ _ e

not_false : (t : Bool) → not t ≡ true → t ≡ false
not_false true e = absurd (let g : false ≡ true = e in cc)
not_false false e = refl

symbol_is : (name : List ℕ) (c : ℕ) (more : List ℕ) → Parts c → symbol_with name (c ∷ more) ≡ Some (shape.Symbol, name, c ∷ more)
symbol_is name c more p = rw p.prime refl

bare_is : (name : List ℕ) (c : ℕ) (more : List ℕ) → is_simple name ≡ true → Parts c → bare_of (name ++ c ∷ more) ≡ Some (shape.Symbol, name, c ∷ more)
bare_is name c more e p =
    let P = belongs set.Symbol in
    let all = simple_all name e in
    let text = name ++ c ∷ more in
    cond-true _ _ _ (simple_starts name (c ∷ more) e)
    ∙ ap (λ x. symbol_with x (drop (run_length P text) text)) (run_take P name (c ∷ more) all p.symbol)
    ∙ ap (symbol_with name) (run_drop P name (c ∷ more) all p.symbol) ∙ symbol_is name c more p

bare_token : (name : List ℕ) (c : ℕ) (more : List ℕ) → is_simple name ≡ true → Parts c → token_of (name ++ c ∷ more) ≡ Some (shape.Symbol, name, c ∷ more)
bare_token [] c more e p = absurd (let g : false ≡ true = e in cc)
bare_token (b ∷ bs) c more e p =
    let starts = (and_parts (starts_simple (b ∷ bs)) (list_all is_symbol_byte (b ∷ bs)) e).0 in
    let first = and_parts (is_symbol_byte b) (not (is_digit b)) starts in
    symbol_first b (bs ++ c ∷ more) first.0 (not_false (is_digit b) first.1) ∙ bare_is (b ∷ bs) c more e p

barred_is : (name : List ℕ) (c : ℕ) (more : List ℕ) → list_all is_barred_byte name ≡ true → Parts c → barred_of (name ++ 124 ∷ c ∷ more) ≡ Some (shape.Symbol, name, c ∷ more)
barred_is name c more e p =
    let P = belongs set.Barred in
    let text = name ++ 124 ∷ c ∷ more in
    ap (λ x. closed_by_bar x (drop (run_length P text) text)) (run_take P name (124 ∷ c ∷ more) e refl)
    ∙ ap (closed_by_bar name) (run_drop P name (124 ∷ c ∷ more) e refl) ∙ symbol_is name c more p

barred_token : (name : List ℕ) (c : ℕ) (more : List ℕ) → list_all is_barred_byte name ≡ true → Parts c → token_of (124 ∷ (name ++ 124 ∷ c ∷ more)) ≡ Some (shape.Symbol, name, c ∷ more)
unfolding token_of
barred_token name c more e p = barred_is name c more e p

-- a name as it is printed
pub symbol_token : (name : List ℕ) (c : ℕ) (more : List ℕ) → list_all is_barred_byte name ≡ true → Parts c → token_of (symbol_text name ++ c ∷ more) ≡ Some (shape.Symbol, name, c ∷ more)
symbol_token name c more e p = go (is_simple name && not (is_among name reserved_words)) refl
  where
    go : (t : Bool) → (is_simple name && not (is_among name reserved_words)) ≡ t → token_of (spelled (cond t (how.Bare false) (how.Barred false)) name ++ c ∷ more) ≡ Some (shape.Symbol, name, c ∷ more)
    go true t =
        let simple = (and_parts (is_simple name) (not (is_among name reserved_words)) t).0 in
        ap (λ x. token_of (x ++ c ∷ more)) (append-nil name) ∙ bare_token name c more simple p
    go false t = ap (λ x. token_of (124 ∷ x)) (append_assoc name (124 ∷ []) (c ∷ more)) ∙ barred_token name c more e p

-- digits of a number
pub numeral_token : (digits : List ℕ) (c : ℕ) (more : List ℕ) → is_run is_digit digits ≡ true → Parts c → token_of (digits ++ c ∷ more) ≡ Some (shape.Numeral, digits, c ∷ more)
numeral_token [] c more e p = absurd (let g : false ≡ true = e in cc)
numeral_token (b ∷ bs) c more e p =
    digit_first b (bs ++ c ∷ more) (and_parts (is_digit b) (list_all is_digit bs) e).0 ∙ run_is shape.Numeral set.Decimal (b ∷ bs) (c ∷ more) e p.digit

-- digits of a word
pub binary_token : (digits : List ℕ) (c : ℕ) (more : List ℕ) → is_run is_binary_digit digits ≡ true → Parts c → token_of (35 ∷ (98 ∷ (digits ++ c ∷ more))) ≡ Some (shape.Binary, digits, c ∷ more)
unfolding token_of
binary_token digits c more e p = run_is shape.Binary set.Binary digits (c ∷ more) e p.binary
