-- The place behind a token that neither a bar nor a quote begins: it is in one line.
use Rattle.std.proofs.Common.{◌≡◌, ◌-◌, ◌≤◌, ◌<◌, ◌+◌, ℕ, zero, suc, Bool, true, false, eqb, Option, Some, None, List, [], ◌∷◌, ◌++◌, length, take, drop, get_or, refl, eq-eqb, sym, ap, ◌∙◌, subst, arith}
use Rattle.std.specs.Prelude.{IsTrue}
use Rattle.std.specs.List.{list_all}
use Rattle.std.proofs.lemmas.List.{length-take}
use Rattle.std.proofs.lemmas.List.Folds.{list_all-append}
use Rattle.std.proofs.lemmas.Bool.{eqb-true, cond_both, cond-true, cond-false, and_parts}
use Rattle.text_core.specs.declared.place.Place.{Place}
use Rattle.moxi_sexpr.specs.declared.scan.Spelling.{Spelling}
use Rattle.moxi_sexpr.specs.declared.scan.Spelling.TheVariants as how
use Rattle.moxi_sexpr.specs.declared.read.TokenKind.{TokenKind}
use Rattle.text_core.specs.Bytes.{is_digit, heads}
use Rattle.moxi_sexpr.specs.Bytes.{is_symbol_byte, is_binary_digit, is_hex_digit, is_comment_byte}
use Rattle.text_core.specs.Places.{next_place, after, start, along}
use Rattle.moxi_sexpr.specs.Atoms.{prime, may_appear, spelled}
use Rattle.moxi_sexpr.specs.Reading.{run_length, line_ends, last_line, Scan, scan_of, value_of, token_from, token_of, front}
use Rattle.moxi_sexpr.proofs.Runs.{other_byte, run_all, simple_all, run_passes, front_is}
use Rattle.moxi_sexpr.proofs.Scanning.{Found, scan_found}
use Rattle.text_core.proofs.PlaceLaws.{is_inner, IsInLine}
use Rattle.text_core.proofs.Truths.{not_true}

abbrev pub placed : ℕ → ℕ → ℕ → Place
placed line column offset = record { line = line; column = column; offset = offset }

same_place : (line c d o u : ℕ) → c ≡ d → o ≡ u → placed line c o ≡ placed line d u
same_place line c d o u e f = ap (λ x. placed line x o) e ∙ ap (placed line d) f

any_place : (l m c d o u : ℕ) → l ≡ m → c ≡ d → o ≡ u → placed l c o ≡ placed m d u
any_place l m c d o u e f g = ap (λ x. placed x c o) e ∙ same_place m c d o u f g

after_line : (bs : List ℕ) (p : Place) → IsInLine bs → after p bs ≡ along p (length bs)
after_line [] p e = same_place p.line p.column (p.column + 0) p.offset (p.offset + 0) (omega arith) (omega arith)
after_line (b ∷ bs) p e =
    let both = and_parts (is_inner b) (list_all is_inner bs) e in
    let here : next_place p b ≡ along p 1 = cond-false _ _ _ (not_true (eqb b 10) both.0) in
    ap (λ q. after q bs) here ∙ after_line bs (along p 1) both.1
    ∙ same_place p.line (p.column + 1 + length bs) (p.column + length (b ∷ bs)) (p.offset + 1 + length bs) (p.offset + length (b ∷ bs)) (omega arith) (omega arith)

all_inner : (p : ℕ → Bool) (s : List ℕ) → p 10 ≡ false → list_all p s ≡ true → IsInLine s
all_inner p [] f e = refl
all_inner p (b ∷ s) f e =
    let both = and_parts (p b) (list_all p s) e in
    let here : eqb b 10 ≡ false = other_byte p b 10 both.0 f in
    rw here (all_inner p s f both.1)

prime_inner : (primed : Bool) → IsInLine (prime primed)
prime_inner true = refl
prime_inner false = refl

both_inner : (xs ys : List ℕ) → IsInLine xs → IsInLine ys → IsInLine (xs ++ ys)
both_inner xs ys e f = list_all-append is_inner xs ys ∙ rw (e, f) refl

spelled_inner : (h : Spelling) (name rest : List ℕ) → IsTrue (may_appear h name) → heads 124 (spelled h name ++ rest) ≡ false → heads 34 (spelled h name ++ rest) ≡ false → IsInLine (spelled h name)
spelled_inner (how.Bare primed) name rest e f g = both_inner name (prime primed) (all_inner is_symbol_byte name refl (simple_all name e)) (prime_inner primed)
spelled_inner (how.Barred primed) name rest e f g = absurd (let h : true ≡ false = f in cc)
spelled_inner how.Keyword name rest e f g = all_inner is_symbol_byte name refl (simple_all name e)
spelled_inner how.Numeral name rest e f g = all_inner is_digit name refl (run_all is_digit name e)
spelled_inner how.Binary name rest e f g = all_inner is_binary_digit name refl (run_all is_binary_digit name e)
spelled_inner how.Hex name rest e f g = all_inner is_hex_digit name refl (run_all is_hex_digit name e)
spelled_inner how.Quote name rest e f g = absurd (let h : true ≡ false = g in cc)

-- the token is in one line, unless a bar or a quote begins it
abbrev InnerBy : List ℕ → Option (TokenKind × List ℕ) → Type 0
InnerBy text None = Unit {0}
InnerBy text (Some x) = heads 124 text ≡ false → heads 34 text ≡ false → IsInLine (front text x.1)

inner_scan : (text : List ℕ) (o : Scan) → Found text o → InnerBy text (token_from o)
inner_scan text None found = tt
inner_scan text (Some x) found = λ bar quote.
    let name = value_of x.0 x.1 in
    let same : front text x.2 ≡ spelled x.0 name = ap (λ y. front y x.2) found.is ∙ front_is (spelled x.0 name) x.2 in
    subst IsInLine (sym same) (spelled_inner x.0 name x.2 found.may (ap (heads 124) (sym found.is) ∙ bar) (ap (heads 34) (sym found.is) ∙ quote))

bracket_inner : (b c : ℕ) (bs : List ℕ) → eqb b c ≡ true → eqb c 10 ≡ false → IsInLine (front (b ∷ bs) bs)
bracket_inner b c bs e f =
    let P : ℕ → Type 0 = λ x. IsInLine (x ∷ []) in
    subst IsInLine (sym (front_is (b ∷ []) bs)) (subst P (sym (eqb-true b c e)) (rw f refl))

inner_token : (text : List ℕ) → InnerBy text (token_of text)
inner_token [] = tt
inner_token (b ∷ bs) =
    cond_both (eqb b 40) _ _ (InnerBy (b ∷ bs)) (λ e bar quote. bracket_inner b 40 bs e refl) (λ _.
    cond_both (eqb b 41) _ _ (InnerBy (b ∷ bs)) (λ e bar quote. bracket_inner b 41 bs e refl) (λ _. inner_scan (b ∷ bs) (scan_of (b ∷ bs)) (scan_found (b ∷ bs))))

pub token_along : (p : Place) (text rest : List ℕ) (k : TokenKind) → token_of text ≡ Some (k, rest) → heads 124 text ≡ false → heads 34 text ≡ false → length rest ≤ length text
    → after p (front text rest) ≡ along p (length text - length rest)
token_along p text rest k e bar quote within =
    let n : length (front text rest) ≡ length text - length rest = omega (arith, length-take (length text - length rest) text) in
    after_line (front text rest) p (subst (InnerBy text) e (inner_token text) bar quote) ∙ ap (along p) n

-- a comment is in one line
pub comment_along : (p : Place) (text : List ℕ) (size : ℕ) → size ≡ run_length is_comment_byte text → size ≤ length text → after p (59 ∷ take (run_length is_comment_byte text) text) ≡ along p (size + 1)
comment_along p text size e within =
    let n = run_length is_comment_byte text in
    let long : length (59 ∷ take n text) ≡ size + 1 = omega (arith, length-take n text) in
    after_line (59 ∷ take n text) p (all_inner is_comment_byte (take n text) refl (run_passes is_comment_byte text)) ∙ ap (along p) long

-- the place at the end of a text
after_step : (t : Bool) (b : ℕ) (bs : List ℕ) (line n offset : ℕ) → eqb b 10 ≡ t
    → ((line n offset : ℕ) → after (placed line (suc n) offset) bs ≡ placed (line + line_ends bs) (suc (last_line n bs)) (offset + length bs))
    → after (placed line (suc n) offset) (b ∷ bs) ≡ placed (line + line_ends (b ∷ bs)) (suc (last_line n (b ∷ bs))) (offset + length (b ∷ bs))
after_step true b bs line n offset e ih =
    let ends : line_ends (b ∷ bs) ≡ suc (line_ends bs) = cond-true _ _ _ e in
    let last : last_line n (b ∷ bs) ≡ last_line 0 bs = cond-true _ _ _ e in
    let next : next_place (placed line (suc n) offset) b ≡ placed (line + 1) 1 (offset + 1) = cond-true _ _ _ e in
    ap (λ q. after q bs) next ∙ ih (line + 1) 0 (offset + 1) ∙ any_place _ _ _ _ _ _ (omega (arith, ends)) (ap suc (sym last)) (omega arith)
after_step false b bs line n offset e ih =
    let ends : line_ends (b ∷ bs) ≡ line_ends bs = cond-false _ _ _ e in
    let last : last_line n (b ∷ bs) ≡ last_line (suc n) bs = cond-false _ _ _ e in
    let next : next_place (placed line (suc n) offset) b ≡ placed line (suc n + 1) (offset + 1) = cond-false _ _ _ e in
    let more : suc n + 1 ≡ suc (suc n) = omega arith in
    ap (λ q. after q bs) (next ∙ ap (λ x. placed line x (offset + 1)) more) ∙ ih line (suc n) (offset + 1) ∙ any_place _ _ _ _ _ _ (omega (arith, ends)) (ap suc (sym last)) (omega arith)

pub after_is : (bs : List ℕ) (line n offset : ℕ) → after (placed line (suc n) offset) bs ≡ placed (line + line_ends bs) (suc (last_line n bs)) (offset + length bs)
after_is [] line n offset = any_place _ _ _ _ _ _ (omega arith) refl (omega arith)
after_is (b ∷ bs) line n offset = after_step (eqb b 10) b bs line n offset refl (after_is bs)

pub end_is : (text : List ℕ) (ends last : ℕ) → ends ≡ line_ends text → last ≡ last_line 0 text → placed (ends + 1) (last + 1) (length text) ≡ after start text
end_is text ends last e f = any_place _ _ _ _ _ _ (omega arith) (omega arith) (omega arith) ∙ sym (after_is text 1 0 0)

-- the last line is behind an end of a line
pub last_at : (text : List ℕ) (k n : ℕ) → k < length text → get_or text k 0 ≡ 10 → last_line n text ≡ last_line 0 (drop (suc k) text)
last_at [] k n h e = absurd (omega arith)
last_at (b ∷ bs) zero n h e = cond-true _ _ _ (eq-eqb b 10 e)
last_at (b ∷ bs) (suc k) n h e = cond_both (eqb b 10) _ _ (λ j. j ≡ last_line 0 (drop (suc k) bs)) (λ _. last_at bs k 0 (omega arith) e) (λ _. last_at bs k (suc n) (omega arith) e)
