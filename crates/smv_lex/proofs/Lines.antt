-- A lexeme is in one line, so that the place behind it is as many bytes along.
use Rattle.std.proofs.Common.{◌≡◌, ◌<◌, ◌+◌, ℕ, Bool, true, false, not, eqb, List, [], ◌∷◌, ◌++◌, length, take, refl, sym, ap, ◌∙◌, inl, inr, arith}
use Rattle.std.specs.List.{list_all}
use Rattle.std.proofs.lemmas.List.{length-take-le}
use Rattle.std.proofs.lemmas.Bool.{cond-false, and_parts, ne_eqb}
use Rattle.text_core.specs.declared.place.Place.{Place}
use Rattle.text_core.specs.Places.{after, next_place, along}
use Rattle.smv_text.specs.declared.token.Sign.{Sign}
use Rattle.smv_text.specs.declared.token.Sign.TheVariants as sign
use Rattle.smv_text.specs.Bytes.{AllPass, is_letter}
use Rattle.smv_text.specs.Signs.{sign_bytes}
use Rattle.smv_text.specs.Words.{IsLexeme, in_word, in_run}
use Rattle.text_core.specs.Bytes.{is_digit}
use Rattle.smv_lex.specs.Reading.{lexeme_length}
use Rattle.smv_lex.proofs.Longest.{lexeme_is, longest_lexeme}
use Rattle.text_core.proofs.PlaceLaws.{is_inner, IsInLine}
use Rattle.text_core.proofs.Truths.{not_true}

-- one byte along, and so many more
along_one : (p : Place) (n : ℕ) → along (along p 1) n ≡ along p (n + 1)
along_one p n =
    let column : p.column + 1 + n ≡ p.column + (n + 1) = omega arith in
    let offset : p.offset + 1 + n ≡ p.offset + (n + 1) = omega arith in
    let P : ℕ → ℕ → Place = λ x y. record { line = p.line; column = x; offset = y } in
    ap (λ x. P x (p.offset + 1 + n)) column ∙ ap (P (p.column + (n + 1))) offset

along_none : (p : Place) → p ≡ along p 0
along_none p =
    let P : ℕ → ℕ → Place = λ x y. record { line = p.line; column = x; offset = y } in
    let column : p.column ≡ p.column + 0 = omega arith in
    let offset : p.offset ≡ p.offset + 0 = omega arith in
    ap (λ x. P x p.offset) column ∙ ap (P (p.column + 0)) offset

after_line : (bs : List ℕ) (p : Place) → IsInLine bs → after p bs ≡ along p (length bs)
after_line [] p e = along_none p
after_line (b ∷ bs) p e =
    let both = and_parts (is_inner b) (list_all is_inner bs) e in
    let here : next_place p b ≡ along p 1 = cond-false _ _ _ (not_true (eqb b 10) both.0) in
    let count : length bs + 1 ≡ length (b ∷ bs) = omega arith in
    ap (λ q. after q bs) here ∙ after_line bs (along p 1) both.1 ∙ along_one p (length bs) ∙ ap (along p) count

inner_by : (b : ℕ) (p : ℕ → Bool) → p 10 ≡ false → p b ≡ true → is_inner b ≡ true
inner_by b p f e = ap not (ne_eqb b 10 (λ same. let g : p 10 ≡ true = sym (ap p same) ∙ e in cc))

all_inner : (p : ℕ → List ℕ → Bool) (bs rest : List ℕ) → ((r : List ℕ) → p 10 r ≡ false) → AllPass p bs rest → IsInLine bs
all_inner p [] rest f a = refl
all_inner p (b ∷ bs) rest f a = rw (inner_by b (λ c. p c (bs ++ rest)) (f (bs ++ rest)) a.0) (all_inner p bs rest f a.1)

sign_inner : (s : Sign) → IsInLine (sign_bytes s)
sign_inner sign.Open = refl
sign_inner _ = refl

lexeme_inner : (f rest : List ℕ) → IsLexeme f rest → IsInLine f
lexeme_inner [] rest a = absurd a
lexeme_inner (b ∷ bs) rest (inl (letter, passes)) = rw (inner_by b is_letter refl letter) (all_inner in_word bs rest (λ r. refl) passes)
lexeme_inner (b ∷ bs) rest (inr (inl (digit, passes))) = rw (inner_by b is_digit refl digit) (all_inner in_run bs rest (λ r. refl) passes)
lexeme_inner (b ∷ bs) rest (inr (inr (s, same, h))) = ap (list_all is_inner) same ∙ sign_inner s

-- the place behind the lexeme at the front of a text
pub lexeme_along : (text : List ℕ) (p : Place) → 0 < lexeme_length text → after p (take (lexeme_length text) text) ≡ along p (lexeme_length text)
lexeme_along text p some =
    let n = lexeme_length text in
    after_line (take n text) p (lexeme_inner _ _ (longest_lexeme text some).fits) ∙ ap (along p) (length-take-le n text (lexeme_is text).0)
