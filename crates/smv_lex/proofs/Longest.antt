-- Longest fronts: two of one text are one, and the scanning functions find them.
use Rattle.std.proofs.Common.{◌≡◌, ◌≤◌, ◌<◌, ◌+◌, ℕ, suc, Bool, true, false, not, cond, eqb, ◌&&◌, Option, Some, None, List, [], ◌∷◌, ◌++◌, length, take, drop, refl, sym, ap, ◌∙◌, subst, inl, inr, arith}
use Rattle.std.specs.Prelude.{IsTrue}
use Rattle.std.proofs.lemmas.List.{take_at, drop_at, append_assoc, length-append, take-append-drop, length-take-le}
use Rattle.std.proofs.lemmas.Bool.{eqb-true, cond_both, and_parts}
use Rattle.std.proofs.lemmas.Bool.Decides.{nat_tests}
use Rattle.smv_text.specs.declared.token.Sign.{Sign}
use Rattle.smv_text.specs.declared.token.Sign.TheVariants as sign
use Rattle.text_core.specs.Bytes.{is_digit, heads, on_some}
use Rattle.smv_text.specs.Bytes.{is_letter, is_blank, AllPass, IsLongest, front_length}
use Rattle.smv_text.specs.Signs.{sign_bytes, may_appear}
use Rattle.smv_text.specs.Words.{IsGap, no_gap, blank, comment, IsLexeme, in_word, in_run}
use Rattle.smv_lex.specs.Reading.{gap_step, gap_length, lexeme_length, begins_comment, colon_sign, dot_sign, bang_sign, less_sign, greater_sign, dash_sign, slash_sign, sign_at, sign_length}

pub same_front : {P : List ℕ → List ℕ → Type 0} (f r g s : List ℕ) → f ++ r ≡ g ++ s → IsLongest P f r → IsLongest P g s → (f ≡ g) × (r ≡ s)
same_front {P = P} f r g s e a b =
    let up : length f ≤ length g = b.longest f r e a.fits in
    let down : length g ≤ length f = a.longest g s (sym e) b.fits in
    let same : length f ≡ length g = omega arith in (
      sym (take_at f r (length f) refl) ∙ ap (take (length f)) e ∙ take_at g s (length f) (sym same),
      sym (drop_at f r (length f) refl) ∙ ap (drop (length f)) e ∙ drop_at g s (length f) (sym same),
    )

-- a front that passes, byte by byte
passes_step : (t : Bool) (n : ℕ) (p : ℕ → List ℕ → Bool) (b : ℕ) (bs : List ℕ) → t ≡ p b bs → AllPass p (take n bs) (drop n bs)
    → AllPass p (take (cond t (suc n) 0) (b ∷ bs)) (drop (cond t (suc n) 0) (b ∷ bs))
passes_step true n p b bs e ih = (subst (λ (x : List ℕ). IsTrue (p b x)) (sym (take-append-drop n bs)) (sym e), ih)
passes_step false n p b bs e ih = tt

pub front_passes : (p : ℕ → List ℕ → Bool) (bs : List ℕ) → AllPass p (take (front_length p bs) bs) (drop (front_length p bs) bs)
front_passes p [] = tt
front_passes p (b ∷ bs) = passes_step (p b bs) (front_length p bs) p b bs refl (front_passes p bs)

pub front_longest : (p : ℕ → List ℕ → Bool) (f r : List ℕ) → AllPass p f r → length f ≤ front_length p (f ++ r)
front_longest p [] r a = omega arith
front_longest p (b ∷ f) r a = rw a.0 (omega (arith, front_longest p f r a.1))

-- a comment's rest and the gap behind it
abbrev pub Inside : Bool → List ℕ → Type 0
Inside true bs = (free : List ℕ) × (gap : List ℕ) × (bs ≡ free ++ gap) × AllPass (λ b rest. not (eqb b 10)) free [] × IsGap gap
Inside false bs = IsGap bs

inside_step : (t : Bool) (b : ℕ) (bs : List ℕ) → t ≡ eqb b 10 → Inside (not t) bs → Inside true (b ∷ bs)
inside_step true b bs e ih = ([], b ∷ bs, refl, tt, blank b (subst (λ (x : ℕ). IsTrue (is_blank x)) (sym (eqb-true b 10 (sym e))) refl) ih)
inside_step false b bs e (free, gap, same, passes, is_gap) = (b ∷ free, gap, ap (λ x. b ∷ x) same, (ap not (sym e), passes), is_gap)

outside_end : (t : Bool) (b : ℕ) → t ≡ is_blank b → IsGap (take (on_some (cond t (Some false) (cond (eqb b 45 && false) (Some true) None)) 0 (λ i. suc (gap_length i []))) (b ∷ []))
outside_end true b e = blank b (sym e) no_gap
outside_end false b e = cond_both (eqb b 45 && false) (Some true) None (λ o. IsGap (take (on_some o 0 (λ i. suc (gap_length i []))) (b ∷ []))) (λ t. blank b (absurd (grind arith)) no_gap) (λ _. no_gap)

comment_from : (c : ℕ) (xs : List ℕ) → c ≡ 45 → Inside true xs → IsGap (45 ∷ (c ∷ xs))
comment_from c xs e (free, gap, same, passes, is_gap) =
    subst (λ (y : ℕ). IsGap (45 ∷ (y ∷ xs))) (sym e) (subst (λ (ys : List ℕ). IsGap (45 ∷ (45 ∷ ys))) (sym same) (comment free passes is_gap))

outside_step : (t d : Bool) (b c : ℕ) (bs : List ℕ) → t ≡ is_blank b → d ≡ (eqb b 45 && eqb c 45) → IsGap (take (gap_length false (c ∷ bs)) (c ∷ bs)) → Inside true (take (gap_length true bs) bs)
    → IsGap (take (on_some (cond t (Some false) (cond d (Some true) None)) 0 (λ i. suc (gap_length i (c ∷ bs)))) (b ∷ (c ∷ bs)))
outside_step true d b c bs e f ih inside = blank b (sym e) ih
outside_step false true b c bs e f ih inside =
    let is_b : b ≡ 45 = eqb-true b 45 (and_parts (eqb b 45) (eqb c 45) (sym f)).0 in
    let is_c : c ≡ 45 = eqb-true c 45 (and_parts (eqb b 45) (eqb c 45) (sym f)).1 in
    subst (λ (x : ℕ). IsGap (x ∷ (take (gap_length true (c ∷ bs)) (c ∷ bs)))) (sym is_b)
    (let P : ℕ → Type 0 = λ y. IsGap (45 ∷ (take (gap_length true (y ∷ bs)) (y ∷ bs))) in subst P (sym is_c) (comment_from 45 (take (gap_length true bs) bs) refl inside))
outside_step false false b c bs e f ih inside = no_gap

pub gap_is : (inside : Bool) (bs : List ℕ) → Inside inside (take (gap_length inside bs) bs)
gap_is true [] = ([], [], refl, tt, no_gap)
gap_is false [] = no_gap
gap_is true (b ∷ bs) = inside_step (eqb b 10) b (take (gap_length (not (eqb b 10)) bs) bs) refl (gap_is (not (eqb b 10)) bs)
gap_is false (b ∷ []) = outside_end (is_blank b) b refl
gap_is false (b ∷ (c ∷ bs)) = outside_step (is_blank b) (eqb b 45 && eqb c 45) b c bs refl refl (gap_is false (c ∷ bs)) (gap_is true bs)

-- a comment goes on at least as far as a gap
more_step : (t d ten : Bool) (g : Bool → ℕ) → (ten ≡ true → t ≡ true) → g false ≤ g true → on_some (cond t (Some false) (cond d (Some true) None)) 0 (λ i. suc (g i)) ≤ suc (g (not ten))
more_step true d true g h le = omega arith
more_step false d true g h le = absurd (let e : false ≡ true = h refl in cc)
more_step true d false g h le = omega arith
more_step false true false g h le = omega arith
more_step false false false g h le = omega arith

inside_more : (bs : List ℕ) → gap_length false bs ≤ gap_length true bs
inside_more [] = omega arith
inside_more (b ∷ bs) =
    more_step (is_blank b) (eqb b 45 && heads 45 bs) (eqb b 10) (λ i. gap_length i bs) (λ e. subst (λ (x : ℕ). is_blank x ≡ true) (sym (eqb-true b 10 e)) refl) (inside_more bs)

free_length : (free bs : List ℕ) → AllPass (λ b rest. not (eqb b 10)) free [] → gap_length true (free ++ bs) ≡ length free + gap_length true bs
free_length [] bs a = omega arith
free_length (b ∷ free) bs a = rw a.0 (omega (arith, free_length free bs a.1))

pub gap_longest : {f : List ℕ} → IsGap f → (r : List ℕ) → length f ≤ gap_length false (f ++ r)
gap_longest no_gap r = omega arith
gap_longest (blank {bs = bs} b e g) r = rw e (omega (arith, gap_longest g r))
gap_longest (comment free {bs = bs} a g) r =
    let e : gap_length true (free ++ (bs ++ r)) ≡ length free + gap_length true (bs ++ r) = free_length free (bs ++ r) a in
    rw (append_assoc free bs r) (omega (arith, length-append free bs, gap_longest g r, inside_more (bs ++ r)))

on_some_within : {A : Type 0} (o : Option A) (g : A → ℕ) (n : ℕ) → ((x : A) → g x ≤ n) → on_some o 0 (λ x. suc (g x)) ≤ suc n
on_some_within None g n h = omega arith
on_some_within (Some x) g n h = omega (arith, h x)

pub gap_within : (inside : Bool) (bs : List ℕ) → gap_length inside bs ≤ length bs
gap_within inside [] = omega arith
gap_within inside (b ∷ bs) = on_some_within (gap_step inside b bs) (λ i. gap_length i bs) (length bs) (λ i. gap_within i bs)

pub front_within : (p : ℕ → List ℕ → Bool) (bs : List ℕ) → front_length p bs ≤ length bs
front_within p [] = omega arith
front_within p (b ∷ bs) = cond_both (p b bs) (suc (front_length p bs)) 0 (λ n. n ≤ suc (length bs)) (λ _. omega (arith, front_within p bs)) (λ _. omega arith)

-- what makes a front of a text, of the length that a function gives, the longest
pub longest_from : {P : List ℕ → List ℕ → Type 0} (size : List ℕ → ℕ) (text : List ℕ) → size text ≤ length text
    → P (take (size text) text) (drop (size text) text) → ((f r : List ℕ) → P f r → length f ≤ size (f ++ r)) → IsLongest P (take (size text) text) (drop (size text) text)
longest_from {P = P} size text within fits longest = record {
  fits = fits;
  longest = λ f r e g. let same : f ++ r ≡ text = e ∙ take-append-drop (size text) text in
      omega (arith, longest f r g, ap size same, length-take-le (size text) text within);
}

pub longest_gap : (text : List ℕ) → IsLongest (λ f r. IsGap f) (take (gap_length false text) text) (drop (gap_length false text) text)
longest_gap text = longest_from {P = λ f r. IsGap f} (gap_length false) text (gap_within false text) (gap_is false text) (λ f r g. gap_longest g r)

-- signs
pub OnSign : List ℕ → Option Sign → Type 0
OnSign text None = Unit {0}
OnSign text (Some s) = (rest : List ℕ) × (text ≡ sign_bytes s ++ rest) × IsTrue (may_appear s rest)

head_is : (c : ℕ) (bs : List ℕ) → heads c bs ≡ true → bs ≡ c ∷ drop 1 bs
head_is c [] e = absurd (cc)
head_is c (b ∷ bs) e = ap (λ x. x ∷ bs) (eqb-true b c e)

-- the sign at a byte, and one byte that goes on with it
fits_two : (c d : ℕ) (bs : List ℕ) (s : Sign) → sign_bytes s ≡ c ∷ (d ∷ []) → IsTrue (may_appear s (drop 1 bs)) → heads d bs ≡ true → OnSign (c ∷ bs) (Some s)
unfolding OnSign
fits_two c d bs s spelled stands e = (drop 1 bs, ap (λ x. c ∷ x) (head_is d bs e) ∙ ap (λ x. x ++ drop 1 bs) (sym spelled), stands)

fits_one : (c : ℕ) (bs : List ℕ) (s : Sign) → sign_bytes s ≡ c ∷ [] → IsTrue (may_appear s bs) → OnSign (c ∷ bs) (Some s)
unfolding OnSign
fits_one c bs s spelled stands = (bs, ap (λ x. x ++ bs) (sym spelled), stands)

colon_fits : (bs : List ℕ) → OnSign (58 ∷ bs) (Some (colon_sign bs))
colon_fits bs =
    let P : Sign → Type 0 = λ s. OnSign (58 ∷ bs) (Some s) in
    cond_both (heads 61 bs) _ _ P (fits_two 58 61 bs sign.Assign refl refl) (λ _.
    cond_both (heads 58 bs) _ _ P (fits_two 58 58 bs sign.Concat refl refl) (λ _. fits_one 58 bs sign.Colon refl refl))

dot_fits : (bs : List ℕ) → OnSign (46 ∷ bs) (Some (dot_sign bs))
dot_fits bs =
    let P : Sign → Type 0 = λ s. OnSign (46 ∷ bs) (Some s) in
    cond_both (heads 46 bs) _ _ P (fits_two 46 46 bs sign.Range refl refl) (λ _. fits_one 46 bs sign.Dot refl refl)

bang_fits : (bs : List ℕ) → OnSign (33 ∷ bs) (Some (bang_sign bs))
bang_fits bs =
    let P : Sign → Type 0 = λ s. OnSign (33 ∷ bs) (Some s) in
    cond_both (heads 61 bs) _ _ P (fits_two 33 61 bs sign.Unequal refl refl) (λ _. fits_one 33 bs sign.Not refl refl)

iff_fits : (bs : List ℕ) → (heads 45 bs && heads 62 (drop 1 bs)) ≡ true → OnSign (60 ∷ bs) (Some sign.Iff)
unfolding OnSign
iff_fits bs e =
    let parts = and_parts (heads 45 bs) (heads 62 (drop 1 bs)) e in
    (drop 1 (drop 1 bs), ap (λ x. 60 ∷ x) (head_is 45 bs parts.0) ∙ ap (λ x. 60 ∷ (45 ∷ x)) (head_is 62 (drop 1 bs) parts.1), refl)

less_fits : (bs : List ℕ) → OnSign (60 ∷ bs) (Some (less_sign bs))
less_fits bs =
    let P : Sign → Type 0 = λ s. OnSign (60 ∷ bs) (Some s) in
    cond_both (heads 61 bs) _ _ P (fits_two 60 61 bs sign.LessEqual refl refl) (λ _.
    cond_both (heads 60 bs) _ _ P (fits_two 60 60 bs sign.ShiftLeft refl refl) (λ _.
    cond_both (heads 45 bs && heads 62 (drop 1 bs)) sign.Iff sign.Less P (iff_fits bs) (λ _. fits_one 60 bs sign.Less refl refl)))

greater_fits : (bs : List ℕ) → OnSign (62 ∷ bs) (Some (greater_sign bs))
greater_fits bs =
    let P : Sign → Type 0 = λ s. OnSign (62 ∷ bs) (Some s) in
    cond_both (heads 61 bs) _ _ P (fits_two 62 61 bs sign.GreaterEqual refl refl) (λ _.
    cond_both (heads 62 bs) _ _ P (fits_two 62 62 bs sign.ShiftRight refl refl) (λ _. fits_one 62 bs sign.Greater refl refl))

dash_fits : (bs : List ℕ) → OnSign (45 ∷ bs) (Some (dash_sign bs))
dash_fits bs =
    let P : Sign → Type 0 = λ s. OnSign (45 ∷ bs) (Some s) in
    cond_both (heads 62 bs) _ _ P (fits_two 45 62 bs sign.Implies refl refl) (λ _. fits_one 45 bs sign.Minus refl refl)

no_sign : (text : List ℕ) → OnSign text None
unfolding OnSign
no_sign text = tt

slash_fits : (bs : List ℕ) → OnSign (47 ∷ bs) (slash_sign bs)
slash_fits bs = cond_both (begins_comment bs) None (Some sign.Divide) (OnSign (47 ∷ bs)) (λ _. no_sign (47 ∷ bs)) (λ e. fits_one 47 bs sign.Divide refl (ap not e))

at_byte : (b c : ℕ) (bs : List ℕ) (o : Option Sign) → OnSign (c ∷ bs) o → eqb b c ≡ true → OnSign (b ∷ bs) o
at_byte b c bs o h e = subst (λ (x : ℕ). OnSign (x ∷ bs) o) (sym (eqb-true b c e)) h

pub sign_fits : (b : ℕ) (bs : List ℕ) → OnSign (b ∷ bs) (sign_at b bs)
sign_fits b bs =
    let P : Option Sign → Type 0 = OnSign (b ∷ bs) in
    cond_both (eqb b 40) _ _ P (at_byte b 40 bs _ (fits_one 40 bs sign.Open refl refl)) (λ _.
    cond_both (eqb b 41) _ _ P (at_byte b 41 bs _ (fits_one 41 bs sign.Close refl refl)) (λ _.
    cond_both (eqb b 123) _ _ P (at_byte b 123 bs _ (fits_one 123 bs sign.OpenBrace refl refl)) (λ _.
    cond_both (eqb b 125) _ _ P (at_byte b 125 bs _ (fits_one 125 bs sign.CloseBrace refl refl)) (λ _.
    cond_both (eqb b 91) _ _ P (at_byte b 91 bs _ (fits_one 91 bs sign.OpenBracket refl refl)) (λ _.
    cond_both (eqb b 93) _ _ P (at_byte b 93 bs _ (fits_one 93 bs sign.CloseBracket refl refl)) (λ _.
    cond_both (eqb b 44) _ _ P (at_byte b 44 bs _ (fits_one 44 bs sign.Comma refl refl)) (λ _.
    cond_both (eqb b 59) _ _ P (at_byte b 59 bs _ (fits_one 59 bs sign.Semicolon refl refl)) (λ _.
    cond_both (eqb b 58) _ _ P (at_byte b 58 bs _ (colon_fits bs)) (λ _.
    cond_both (eqb b 46) _ _ P (at_byte b 46 bs _ (dot_fits bs)) (λ _.
    cond_both (eqb b 61) _ _ P (at_byte b 61 bs _ (fits_one 61 bs sign.Equal refl refl)) (λ _.
    cond_both (eqb b 33) _ _ P (at_byte b 33 bs _ (bang_fits bs)) (λ _.
    cond_both (eqb b 60) _ _ P (at_byte b 60 bs _ (less_fits bs)) (λ _.
    cond_both (eqb b 62) _ _ P (at_byte b 62 bs _ (greater_fits bs)) (λ _.
    cond_both (eqb b 38) _ _ P (at_byte b 38 bs _ (fits_one 38 bs sign.And refl refl)) (λ _.
    cond_both (eqb b 124) _ _ P (at_byte b 124 bs _ (fits_one 124 bs sign.Or refl refl)) (λ _.
    cond_both (eqb b 43) _ _ P (at_byte b 43 bs _ (fits_one 43 bs sign.Plus refl refl)) (λ _.
    cond_both (eqb b 45) _ _ P (at_byte b 45 bs _ (dash_fits bs)) (λ _.
    cond_both (eqb b 42) _ _ P (at_byte b 42 bs _ (fits_one 42 bs sign.Times refl refl)) (λ _.
    cond_both (eqb b 47) _ _ P (at_byte b 47 bs _ (slash_fits bs)) (λ _.
    cond_both (eqb b 63) (Some sign.Question) None P (at_byte b 63 bs _ (fits_one 63 bs sign.Question refl refl)) (λ _. no_sign (b ∷ bs))))))))))))))))))))))

-- a sign at the front of a text is the bytes there
pub sign_front : (text : List ℕ) (s : Sign) → OnSign text (Some s) → take (length (sign_bytes s)) text ≡ sign_bytes s
unfolding OnSign
sign_front text s (rest, same, h) = ap (take (length (sign_bytes s))) same ∙ take_at (sign_bytes s) rest (length (sign_bytes s)) refl

-- every sign has a byte
pub some_bytes : (s : Sign) → 1 ≤ length (sign_bytes s)
some_bytes sign.Open = omega arith
some_bytes _ = omega arith

not_true : (b : Bool) → not b ≡ true → b ≡ false
not_true true e = cc
not_true false e = refl

pub sign_longest : (s : Sign) (r : List ℕ) → IsTrue (may_appear s r) → length (sign_bytes s) ≤ lexeme_length (sign_bytes s ++ r)
sign_longest sign.Colon r h = some_bytes (colon_sign r)
sign_longest sign.Dot r h = some_bytes (dot_sign r)
sign_longest sign.Less r h = some_bytes (less_sign r)
sign_longest sign.Greater r h = some_bytes (greater_sign r)
sign_longest sign.Not r h = some_bytes (bang_sign r)
sign_longest sign.Minus r h = some_bytes (dash_sign r)
sign_longest sign.Divide r h = rw (not_true (begins_comment r) h) (omega arith)
sign_longest _ r h = omega arith

pub digit_no_letter : (b : ℕ) → is_digit b ≡ true → is_letter b ≡ false
digit_no_letter b e = grind (arith, nat_tests)

pub lexeme_longest : (f r : List ℕ) → IsLexeme f r → length f ≤ lexeme_length (f ++ r)
lexeme_longest [] r a = absurd a
lexeme_longest (b ∷ f) r (inl (letter, passes)) = rw letter (omega (arith, front_longest in_word f r passes))
lexeme_longest (b ∷ f) r (inr (inl (digit, passes))) = rw (digit_no_letter b digit, digit) (omega (arith, front_longest in_run f r passes))
lexeme_longest (b ∷ f) r (inr (inr (s, e, h))) = let P : List ℕ → Type 0 = λ x. length x ≤ lexeme_length (x ++ r) in subst P (sym e) (sign_longest s r h)

abbrev sized : List ℕ → ℕ → Type 0
sized text n = (n ≤ length text) × (0 < n → IsLexeme (take n text) (drop n text))

sign_lexeme : (s : Sign) (r : List ℕ) → IsTrue (may_appear s r) → IsLexeme (sign_bytes s) r
sign_lexeme sign.Open r h = inr (inr (sign.Open, refl, h))
sign_lexeme s r h = inr (inr (s, refl, h))

sized_sign : (s : Sign) (r : List ℕ) → IsTrue (may_appear s r) → sized (sign_bytes s ++ r) (length (sign_bytes s))
sized_sign s r h = (
  omega (arith, length-append (sign_bytes s) r),
  λ lt. let P : List ℕ → List ℕ → Type 0 = λ x y. IsLexeme x y in
      subst (λ (x : List ℕ). P x (drop (length (sign_bytes s)) (sign_bytes s ++ r))) (sym (take_at (sign_bytes s) r (length (sign_bytes s)) refl))
      (subst (P (sign_bytes s)) (sym (drop_at (sign_bytes s) r (length (sign_bytes s)) refl)) (sign_lexeme s r h)),
)

from_sign : (b : ℕ) (bs : List ℕ) (o : Option Sign) → OnSign (b ∷ bs) o → sized (b ∷ bs) (sign_length o)
unfolding OnSign
from_sign b bs None h = (omega arith, λ lt. absurd (omega arith))
from_sign b bs (Some s) (rest, e, h) = subst (λ (text : List ℕ). sized text (length (sign_bytes s))) (sym e) (sized_sign s rest h)

pub lexeme_is : (text : List ℕ) → sized text (lexeme_length text)
lexeme_is [] = (omega arith, λ lt. absurd (omega arith))
lexeme_is (b ∷ bs) =
    cond_both (is_letter b) (suc (front_length in_word bs)) _ (sized (b ∷ bs)) (λ letter. (omega (arith, front_within in_word bs), λ lt. inl (letter, front_passes in_word bs)))
    (λ _. cond_both (is_digit b) (suc (front_length in_run bs)) _ (sized (b ∷ bs)) (λ digit. (omega (arith, front_within in_run bs), λ lt. inr (inl (digit, front_passes in_run bs))))
    (λ _. from_sign b bs (sign_at b bs) (sign_fits b bs)))

pub longest_lexeme : (text : List ℕ) → 0 < lexeme_length text → IsLongest IsLexeme (take (lexeme_length text) text) (drop (lexeme_length text) text)
longest_lexeme text lt = longest_from lexeme_length text (lexeme_is text).0 ((lexeme_is text).1 lt) lexeme_longest

pub no_lexeme : (text : List ℕ) → lexeme_length text ≡ 0 → (f r : List ℕ) → f ++ r ≡ text → IsLexeme f r → ⊥
no_lexeme text none [] r e a = a
no_lexeme text none (b ∷ f) r e a = omega (arith, lexeme_longest (b ∷ f) r a, ap lexeme_length e)
