-- The steps of a printed response are read.
use Rattle.std.proofs.Common.{◌≡◌, ℕ, ◌≤◌, Bool, true, false, not, cond, eqb, ◌&&◌, ◌||◌, Option, Some, None, List, [], ◌∷◌, ◌++◌, length, set, Ok, refl, sym, ap, ◌∙◌, subst, arith}
use Rattle.std.specs.Prelude.{codes, slice_get, option_and_then, option_map}
use Rattle.std.proofs.lemmas.Bool.{cond-true, cond-false, and_parts, eq-eqb, eqb-true}
use Rattle.std.proofs.lemmas.Option.{none-some}
use Rattle.word_core.specs.Digits.{read_word}
use Rattle.text_core.specs.Binary.{binary_digits}
use Rattle.moxi_sexpr.specs.Bytes.{is_blank}
use Rattle.moxi_sexpr.specs.Atoms.{is_simple, spelled}
use Rattle.moxi_sexpr.specs.declared.scan.Spelling.TheVariants as how
use Rattle.moxi_sexpr.specs.Printing.{is_among, reserved_words}
use Rattle.moxi_term_print.proofs.StandingNumbers.{digits_run, word_again}
use Rattle.moxi_terms.specs.declared.data.Sort.{Sort}
use Rattle.moxi_terms.specs.declared.data.Sort.TheVariants.{Truth, Bits, Choice}
use Rattle.moxi_terms.specs.declared.data.Datum.{Datum}
use Rattle.moxi_terms.specs.declared.data.Datum.TheVariants as datum
use Rattle.moxi_terms.specs.declared.term.Variable.{Variable}
use Rattle.moxi_terms.specs.Sorts.{IsOf}
use Rattle.moxi_trace.specs.declared.point.Point.TheVariants as point
use Rattle.moxi_trace.specs.declared.tokens.Shape.{Shape}
use Rattle.moxi_trace.specs.declared.tokens.Shape.TheVariants as shape
use Rattle.moxi_trace.specs.Traces.{Declared}
use Rattle.moxi_trace.specs.Texts.{symbol_text, constant_name, value_text}
use Rattle.moxi_trace.specs.Tokens.{token_of}
use Rattle.moxi_trace.specs.Values.{value_of, word_value}
use Rattle.moxi_trace.specs.ReadBack.{CanBeSpelled, CanBeReadBack}
use Rattle.moxi_trace.specs.Reading.{value_at, value_read, is_bracket}
use Rattle.moxi_trace.proofs.Spelled.{Parts, closing_parts, symbol_token, binary_token}
use Rattle.moxi_trace.proofs.Going.{Standing, reading, Goes, Leads, goes_token}
use Rattle.moxi_trace.proofs.Head.{here}
use Rattle.text_core.proofs.BinaryLemmas.{digits_long}

-- ---- tokens of one byte or more

-- no token begins with a blank
blank_begins : (b : ℕ) (bs : List ℕ) → is_blank b ≡ true → token_of (b ∷ bs) ≡ None
unfolding token_of
blank_begins b bs e = go (eqb b 9) refl (eqb b 10) refl (eqb b 13) refl (eqb b 32) refl e
  where
    at : (c : ℕ) → eqb b c ≡ true → token_of (c ∷ bs) ≡ None → token_of (b ∷ bs) ≡ None
    at c s h = subst (λ (x : ℕ). token_of (x ∷ bs) ≡ None) (sym (eqb-true b c s)) h

    go : (x : Bool) → eqb b 9 ≡ x → (y : Bool) → eqb b 10 ≡ y → (z : Bool) → eqb b 13 ≡ z → (w : Bool) → eqb b 32 ≡ w → (x || (y || (z || w))) ≡ true → token_of (b ∷ bs) ≡ None
    go true p y q z r w s e = at 9 p refl
    go false p true q z r w s e = at 10 q refl
    go false p false q true r w s e = at 13 r refl
    go false p false q false r true s e = at 32 s refl
    go false p false q false r false s e = absurd (let g : false ≡ true = e in cc)

begins : (b : ℕ) (bs : List ℕ) (x : Shape × List ℕ × List ℕ) → token_of (b ∷ bs) ≡ Some x → is_blank b ≡ false
begins b bs x t = go (is_blank b) refl
  where
    go : (y : Bool) → is_blank b ≡ y → is_blank b ≡ false
    go true e = absurd (none-some x (sym (blank_begins b bs e) ∙ t))
    go false e = e

pub goes_word : (d : Declared) (xs rest raw : List ℕ) (k : Shape) (c e : Standing) → 1 ≤ length xs → token_of (xs ++ rest) ≡ Some (k, raw, rest) → Leads d k raw c e → Goes d (xs ++ rest) c rest e
goes_word d [] rest raw k c e some t l = absurd (let g : 1 ≤ 0 = some in omega (arith, g))
goes_word d (b ∷ bs) rest raw k c e some t l = goes_token d b bs rest raw k c e (begins b (bs ++ rest) (k, raw, rest) t) t l

symbol_some : (name : List ℕ) → 1 ≤ length (symbol_text name)
symbol_some name = go (is_simple name && not (is_among name reserved_words)) refl
  where
    simple_some : (xs : List ℕ) → is_simple xs ≡ true → 1 ≤ length (xs ++ [])
    simple_some [] e = absurd (let g : false ≡ true = e in cc)
    simple_some (x ∷ xs) e = omega arith

    go : (t : Bool) → (is_simple name && not (is_among name reserved_words)) ≡ t → 1 ≤ length (spelled (cond t (how.Bare false) (how.Barred false)) name)
    go true t = simple_some name (and_parts (is_simple name) (not (is_among name reserved_words)) t).0
    go false t = omega arith

-- a name, with what it leads to
pub goes_symbol : (d : Declared) (name : List ℕ) (b : ℕ) (more : List ℕ) (c e : Standing) → CanBeSpelled name → Parts b → Leads d shape.Symbol name c e → Goes d (symbol_text name ++ b ∷ more) c (b ∷ more) e
goes_symbol d name b more c e can p l = goes_word d (symbol_text name) (b ∷ more) name shape.Symbol c e (symbol_some name) (symbol_token name b more can p) l

-- ---- values

stated_value : (d : Declared) (k q : ℕ) (v : Variable) (x : Datum) (s : Shape) (raw : List ℕ) (vs : List (Option Datum)) (ss : List (List Datum)) → slice_get d.variables k ≡ Some v → is_bracket s ≡ false → value_of d.enumerations v.sort s raw ≡ Some x
    → Leads d s raw (here (point.Value k) q vs ss) (here point.Stated q (set vs k (Some x)) ss)
stated_value d k q v x s raw vs ss at b e spot =
    let r = reading spot (here (point.Value k) q vs ss) in
    let found : value_at d k s raw ≡ Some x = ap (λ o. option_and_then (λ (v : Variable). value_of d.enumerations v.sort s raw) o) at ∙ e in
    (spot, cond-false (is_bracket s) _ _ b ∙ ap (λ o. Ok (value_read k o spot.at r)) found)

pub goes_value : (d : Declared) (can : CanBeReadBack d) (k q : ℕ) (v : Variable) (s : Sort) (x : Datum) (more : List ℕ) (vs : List (Option Datum)) (ss : List (List Datum)) → slice_get d.variables k ≡ Some v → v.sort ≡ s → IsOf d.enumerations s x
    → Goes d (value_text d.enumerations x ++ 41 ∷ more) (here (point.Value k) q vs ss) (41 ∷ more) (here point.Stated q (set vs k (Some x)) ss)
unfolding token_of
goes_value d can k q v Truth (datum.Truth true) more vs ss at is h =
    let l = stated_value d k q v (datum.Truth true) shape.Symbol (codes "true") vs ss at refl (ap (λ t. value_of d.enumerations t shape.Symbol (codes "true")) is) in
    goes_token d 116 (codes "rue") (41 ∷ more) (codes "true") shape.Symbol (here (point.Value k) q vs ss) (here point.Stated q (set vs k (Some (datum.Truth true))) ss) refl refl l
goes_value d can k q v Truth (datum.Truth false) more vs ss at is h =
    let l = stated_value d k q v (datum.Truth false) shape.Symbol (codes "false") vs ss at refl (ap (λ t. value_of d.enumerations t shape.Symbol (codes "false")) is) in
    goes_token d 102 (codes "alse") (41 ∷ more) (codes "false") shape.Symbol (here (point.Value k) q vs ss) (here point.Stated q (set vs k (Some (datum.Truth false))) ss) refl refl l
goes_value d can k q v (Bits w) (datum.Bits c) more vs ss at is h =
    let digits = binary_digits c.width c.bits in
    let wide : length digits ≡ w = digits_long c.width c.bits ∙ h.0 in
    let word : word_value (Bits w) digits ≡ Some (datum.Bits c) =
    cond-true (eqb (length digits) w) _ _ (eq-eqb (length digits) w wide) ∙ ap (λ n. option_map datum.Bits (read_word n 2 digits)) (sym wide) ∙ ap (option_map datum.Bits) (word_again c h.1) in
    let l = stated_value d k q v (datum.Bits c) shape.Binary digits vs ss at refl (ap (λ t. value_of d.enumerations t shape.Binary digits) is ∙ word) in
    goes_token d 35 (98 ∷ digits) (41 ∷ more) digits shape.Binary (here (point.Value k) q vs ss) (here point.Stated q (set vs k (Some (datum.Bits c))) ss) refl (binary_token digits 41 more (digits_run c.width c.bits h.1.0) closing_parts) l
goes_value d can k q v (Choice n) (datum.Constant m i) more vs ss at is h =
    let known = can.constants n i h.1 in
    let name = constant_name d.enumerations n i in
    let to = here point.Stated q (set vs k (Some (datum.Constant n i))) ss in
    let l = stated_value d k q v (datum.Constant n i) shape.Symbol name vs ss at refl (ap (λ t. value_of d.enumerations t shape.Symbol name) is ∙ known.1) in
    let g : Goes d (value_text d.enumerations (datum.Constant n i) ++ 41 ∷ more) (here (point.Value k) q vs ss) (41 ∷ more) (here point.Stated q (set vs k (Some (datum.Constant n i))) ss) =
    goes_symbol d name 41 more (here (point.Value k) q vs ss) to known.0 closing_parts l in
    subst (λ (j : ℕ). Goes d (value_text d.enumerations (datum.Constant j i) ++ 41 ∷ more) (here (point.Value k) q vs ss) (41 ∷ more) (here point.Stated q (set vs k (Some (datum.Constant j i))) ss)) (sym h.0) g
goes_value d can k q v Truth (datum.Bits c) more vs ss at is h = absurd h
goes_value d can k q v Truth (datum.Constant m i) more vs ss at is h = absurd h
goes_value d can k q v (Bits w) (datum.Truth b) more vs ss at is h = absurd h
goes_value d can k q v (Bits w) (datum.Constant m i) more vs ss at is h = absurd h
goes_value d can k q v (Choice n) (datum.Truth b) more vs ss at is h = absurd h
goes_value d can k q v (Choice n) (datum.Bits c) more vs ss at is h = absurd h
