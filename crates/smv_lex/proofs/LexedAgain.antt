-- A printed list of tokens is lexed again, and the tokens of a text can be printed.
use Rattle.std.proofs.Common.{◌≡◌, ◌<◌, ◌≤◌, ◌^◌, ℕ, suc, Bool, true, false, cond, ◌&&◌, eqb, Option, Some, None, option_map, List, [], ◌∷◌, ◌++◌, length, take, drop, refl, sym, ap, ◌∙◌, subst, inl, inr, arith}
use Rattle.std.proofs.lemmas.List.{append_assoc, take_at, drop_at, append-nil}
use Rattle.std.proofs.lemmas.Bool.{and_parts}
use Rattle.std.proofs.lemmas.Bool.Decides.{nat_tests}
use Rattle.std.specs.Prelude.{nat_lt, nat_le, option_and_then}
use Rattle.std.specs.Option.{option_or}
use Rattle.text_core.specs.declared.place.Place.{Place}
use Rattle.word_core.specs.Words.{BitVector, IsWord}
use Rattle.word_core.specs.declared.word.TheConstants.{WIDEST}
use Rattle.word_core.specs.Digits.{below, fitted, digits_value, read_word}
use Rattle.smv_text.specs.declared.token.Reserved.{Reserved}
use Rattle.smv_text.specs.declared.token.Token.{Token}
use Rattle.smv_text.specs.declared.token.TokenKind.{TokenKind}
use Rattle.smv_text.specs.declared.token.TokenKind.TheVariants as kind
use Rattle.text_core.specs.Bytes.{is_digit}
use Rattle.smv_text.specs.Bytes.{AllPass, front_length, is_letter, look_up}
use Rattle.text_core.specs.Places.{after, start}
use Rattle.smv_text.specs.Signs.{signs}
use Rattle.smv_text.specs.Numbers.{number_of, literal_of, based_word, past_sign, parted_word, marked_word, bare, base_of}
use Rattle.smv_text.specs.Keywords.{keywords}
use Rattle.smv_text.specs.Words.{IsLexeme, no_gap, in_word, kind_of, word_kind, keyword_kind, run_kind}
use Rattle.smv_text.specs.Lexing.{Steps, ends, token, stray, misspelled, too_nested, Next, finished, go, bad, LexesFrom, last, more, Lexes, kinds, token_at, opened_by, opened, most_brackets, refusal_at}
use Rattle.smv_lex.specs.Reading.{lexeme_length, next_of, behind, sized, kinded, is_unmarked}
use Rattle.smv_lex.specs.Spelling.{spelled, spaced, joined}
use Rattle.smv_lex.specs.Printable.{ArePrintable, CanBePrinted, CanAllBePrinted}
use Rattle.smv_lex.proofs.Laws.{next_steps, opened_more}
use Rattle.smv_lex.proofs.Printed.{Apart, at_end, blank_first, IsReadAs, printed_as, digit_kind}
use Rattle.smv_lex.proofs.Spellings.{sign_read}
use Rattle.smv_lex.proofs.Whole.{passes_alone}

pub some_same : {A : Type 0} (x y : A) → Some x ≡ Some y → x ≡ y
some_same x y e = cc

some_sized : (n : ℕ) (p : Place) (text : List ℕ) (size : ℕ) → 0 < size → sized n p text size ≡ kinded n p (take size text) (drop size text) (kind_of (take size text))
some_sized n p text size some = let e : eqb size 0 ≡ false = grind (arith, some) in ap (λ c. cond c (bad (refusal_at 2 p)) (kinded n p (take size text) (drop size text) (kind_of (take size text)))) e

-- what stands next at bytes that are read as a token
sized_read : (n : ℕ) (p : Place) (k : TokenKind) (f r : List ℕ) → IsReadAs k f → Apart r → opened_by n k ≤ most_brackets
    → behind n p (f ++ r) ≡ go (token_at p f k) (after p f) r
sized_read n p k [] r is a few = absurd (omega (arith, is.some))
sized_read n p k (b ∷ bs) r is a few =
    ap (sized n p (b ∷ (bs ++ r))) (is.whole r a) ∙ some_sized n p (b ∷ (bs ++ r)) (length (b ∷ bs)) is.some
    ∙ ap (λ x. kinded n p x (drop (length (b ∷ bs)) (b ∷ (bs ++ r))) (kind_of x)) (take_at (b ∷ bs) r (length (b ∷ bs)) refl)
    ∙ ap (λ x. kinded n p (b ∷ bs) x (kind_of (b ∷ bs))) (drop_at (b ∷ bs) r (length (b ∷ bs)) refl)
    ∙ ap (kinded n p (b ∷ bs) r) is.kind_is
    ∙ within (nat_le (opened_by n k) most_brackets) (grind (arith, nat_tests, few))
  where
    within : (c : Bool) → c ≡ true → cond c (go (token_at p (b ∷ bs) k) (after p (b ∷ bs)) r) (bad (refusal_at 4 p)) ≡ go (token_at p (b ∷ bs) k) (after p (b ∷ bs)) r
    within true e = refl
    within false e = absurd (cc)

first_read : (n : ℕ) (at : Place) (k : TokenKind) (f r : List ℕ) → IsReadAs k f → Apart r → opened_by n k ≤ most_brackets
    → next_of n at (f ++ r) ≡ go (token_at at f k) (after at f) r
unfolding next_of
first_read n at k f r is a few =
    ap (λ g. behind n (after at (take g (f ++ r))) (drop g (f ++ r))) (is.gapless r a) ∙ sized_read n at k f r is a few

later_read : (n : ℕ) (at : Place) (k : TokenKind) (f r : List ℕ) → IsReadAs k f → Apart r → opened_by n k ≤ most_brackets
    → next_of n at (32 ∷ (f ++ r)) ≡ go (token_at (after at (32 ∷ [])) f k) (after (after at (32 ∷ [])) f) r
unfolding next_of
later_read n at k f r is a few =
    ap (λ g. behind n (after at (take (suc g) (32 ∷ (f ++ r)))) (drop (suc g) (32 ∷ (f ++ r)))) (is.gapless r a) ∙ sized_read n (after at (32 ∷ [])) k f r is a few

spaced_apart : (ks : List TokenKind) → Apart (spaced ks)
spaced_apart [] = at_end
spaced_apart (k ∷ ks) = blank_first (spelled k ++ spaced ks)

-- these tokens behind those before
record IsLexed (before : List Token) (at : Place) (text : List ℕ) (ks : List TokenKind) : Type 0 where
  tokens : List Token
  lexed : LexesFrom before at text (before ++ tokens)
  are : kinds tokens ≡ ks

one_more : (before : List Token) (at next : Place) (text rest : List ℕ) (ks : List TokenKind) (t : Token)
    → next_of (opened before) at text ≡ go t next rest → IsLexed (before ++ t ∷ []) next rest ks → IsLexed before at text (t.kind ∷ ks)
one_more before at next text rest ks t e l = record {
  tokens = t ∷ l.tokens;
  lexed = more t next rest (subst (Steps (opened before) at text) e (next_steps (opened before) at text))
      (subst (LexesFrom (before ++ t ∷ []) next rest) (append_assoc before (t ∷ []) l.tokens) l.lexed);
  are = ap (λ x. t.kind ∷ x) l.are;
}

counted : (before : List Token) (t : Token) (ks : List TokenKind) → ArePrintable (opened_by (opened before) t.kind) ks → ArePrintable (opened (before ++ t ∷ [])) ks
counted before t ks p = subst (λ n. ArePrintable n ks) (opened_more (opened before) _ before (before ++ t ∷ []) t refl refl refl) p

spaced_lexed : (before : List Token) (at : Place) (ks : List TokenKind) → ArePrintable (opened before) ks → IsLexed before at (spaced ks) ks
spaced_lexed before at [] p = record { tokens = []; lexed = subst (LexesFrom before at []) (sym (append-nil before)) (last (ends at [] no_gap)); are = refl }
spaced_lexed before at (k ∷ ks) p =
    let f = spelled k in
    let t = token_at (after at (32 ∷ [])) f k in
    let next = after (after at (32 ∷ [])) f in
    one_more before at next (32 ∷ (f ++ spaced ks)) (spaced ks) ks t (later_read (opened before) at k f (spaced ks) (printed_as k p.0) (spaced_apart ks) p.1)
    (spaced_lexed (before ++ t ∷ []) next ks (counted before t ks p.2))

joined_lexed : (ks : List TokenKind) → ArePrintable 0 ks → IsLexed [] start (joined ks) ks
joined_lexed [] p = record { tokens = []; lexed = last (ends start [] no_gap); are = refl }
joined_lexed (k ∷ ks) p =
    let f = spelled k in
    let t = token_at start f k in
    let next = after start f in
    one_more [] start next (f ++ spaced ks) (spaced ks) ks t (first_read 0 start k f (spaced ks) (printed_as k p.0) (spaced_apart ks) p.1)
    (spaced_lexed (t ∷ []) next ks (counted [] t ks p.2))

pub lexed_again : (ks : List TokenKind) → ArePrintable 0 ks → (ts : List Token) × Lexes (joined ks) ts × (kinds ts ≡ ks)
lexed_again ks p = let l = joined_lexed ks p in (l.tokens, l.lexed, l.are)

-- the tokens of a text can be printed
below_limit : (limit n m : ℕ) → below limit n ≡ Some m → m < limit
below_limit limit n m e = at_test (nat_lt n limit) refl e
  where
    at_test : (c : Bool) → nat_lt n limit ≡ c → cond c (Some n) None ≡ Some m → m < limit
    at_test true t e = let same : n ≡ m = cc in grind (arith, nat_tests, t, same)
    at_test false t e = cc

number_small : (o : Option ℕ) (m : ℕ) → option_and_then (below (2 ^ 62)) o ≡ Some m → m < 2 ^ 62
number_small None m e = cc
number_small (Some n) m e = below_limit (2 ^ 62) n m e

pub fitted_word : (width n : ℕ) (w : BitVector) → 1 ≤ width → width ≤ WIDEST → fitted width n ≡ Some w → IsWord w
fitted_word width n w some most e = at_test (nat_lt n (2 ^ width)) refl e
  where
    at_test : (c : Bool) → nat_lt n (2 ^ width) ≡ c → cond c (Some (record { width = width; bits = n })) None ≡ Some w → IsWord w
    at_test true t e = let same : record { width = width; bits = n } ≡ w = cc in subst IsWord same (some, most, grind (arith, nat_tests, t))
    at_test false t e = cc

pub value_word : (width : ℕ) (o : Option ℕ) (w : BitVector) → 1 ≤ width → width ≤ WIDEST → option_and_then (fitted width) o ≡ Some w → IsWord w
value_word width None w some most e = cc
value_word width (Some n) w some most e = fitted_word width n w some most e

pub read_is_word : (width base : ℕ) (digits : List ℕ) (w : BitVector) → read_word width base digits ≡ Some w → IsWord w
read_is_word width base digits w e = at_test (nat_le 1 width && nat_le width WIDEST) refl e
  where
    at_test : (c : Bool) → (nat_le 1 width && nat_le width WIDEST) ≡ c → cond c (option_and_then (fitted width) (digits_value base digits)) None ≡ Some w → IsWord w
    at_test true t e = let h = and_parts (nat_le 1 width) (nat_le width WIDEST) t in value_word width (digits_value base digits) w (grind (arith, nat_tests, h.0)) (grind (arith, nat_tests, h.1)) e
    at_test false t e = cc

pub sized_is_word : (o : Option ℕ) (base : ℕ) (digits : List ℕ) (w : BitVector) → option_and_then (λ n. read_word n base (bare digits)) o ≡ Some w → IsWord w
sized_is_word None base digits w e = cc
sized_is_word (Some n) base digits w e = read_is_word n base (bare digits) w e

pub marked_is_word : (base : ℕ) (width rest : List ℕ) (w : BitVector) → marked_word base width rest ≡ Some w → IsWord w
marked_is_word base width [] w e = cc
marked_is_word base width (m ∷ digits) w e = sized_is_word (digits_value 10 width) base digits w e

pub based_is_word : (bs : List ℕ) (w : BitVector) → based_word bs ≡ Some w → IsWord w
based_is_word [] w e = cc
based_is_word (b ∷ bs) w e = by_base (base_of b) e
  where
    by_base : (o : Option ℕ) → option_and_then (parted_word bs) o ≡ Some w → IsWord w
    by_base None e = cc
    by_base (Some base) e = marked_is_word base (take (front_length is_unmarked bs) bs) (drop (front_length is_unmarked bs) bs) w e

literal_is_word : (bs : List ℕ) (w : BitVector) → literal_of bs ≡ Some w → IsWord w
literal_is_word [] w e = cc
literal_is_word (b ∷ bs) w e = at_test (eqb b 48) e
  where
    at_test : (c : Bool) → cond c (based_word (past_sign bs)) None ≡ Some w → IsWord w
    at_test true e = based_is_word (past_sign bs) w e
    at_test false e = cc

letter_kind : {A : Type 0} (l : Bool) (x y : A) → l ≡ true → cond l x y ≡ x
letter_kind l x y e = rw e refl

word_printable : (k : TokenKind) (b : ℕ) (bs rest : List ℕ) → is_letter b ≡ true → AllPass in_word bs rest → kind_of (b ∷ bs) ≡ Some k → CanBePrinted k
word_printable k b bs rest letter passes e = by_keyword (look_up (b ∷ bs) keywords) refl
  where
    is : kind_of (b ∷ bs) ≡ Some (word_kind (b ∷ bs))
    is = letter_kind (is_letter b) (Some (word_kind (b ∷ bs))) _ letter

    by_keyword : (o : Option (Option Reserved)) → look_up (b ∷ bs) keywords ≡ o → CanBePrinted k
    by_keyword None f =
        let as_word : kind_of (b ∷ bs) ≡ Some (kind.Ident (b ∷ bs)) = is ∙ ap (λ o. Some (keyword_kind (b ∷ bs) o)) f in
        let same : kind.Ident (b ∷ bs) ≡ k = some_same _ _ (sym as_word ∙ e) in
        let whole : lexeme_length (b ∷ bs) ≡ length (b ∷ bs) = letter_kind (is_letter b) (suc (front_length in_word bs)) _ letter ∙ ap suc (passes_alone bs rest passes) in
        subst CanBePrinted same (inr (record { whole = whole; read = as_word }))
    by_keyword (Some None) f = inl (some_same _ _ (sym e ∙ is ∙ ap (λ o. Some (keyword_kind (b ∷ bs) o)) f))
    by_keyword (Some (Some r)) f = subst CanBePrinted (some_same _ _ (sym (is ∙ ap (λ o. Some (keyword_kind (b ∷ bs) o)) f) ∙ e)) (inr tt)

literal_printable : (k : TokenKind) (o : Option BitVector) → ((w : BitVector) → o ≡ Some w → IsWord w) → option_map kind.Literal o ≡ Some k → CanBePrinted k
literal_printable k None h e = cc
literal_printable k (Some w) h e = subst CanBePrinted (some_same _ _ e) (inr (h w refl))

run_printable : (k : TokenKind) (f : List ℕ) → run_kind f ≡ Some k → CanBePrinted k
run_printable k f e = by_number (number_of f) refl e
  where
    by_number : (o : Option ℕ) → number_of f ≡ o → option_or (option_map kind.Number o) (option_map kind.Literal (literal_of f)) ≡ Some k → CanBePrinted k
    by_number None n e = literal_printable k (literal_of f) (literal_is_word f) e
    by_number (Some m) n e = subst CanBePrinted (some_same _ _ e) (inr (number_small (digits_value 10 f) m n))

-- a lexeme's token can be printed, but for words of parts that aren't supported
pub token_printable : (k : TokenKind) (f rest : List ℕ) → IsLexeme f rest → kind_of f ≡ Some k → CanBePrinted k
token_printable k [] rest a e = absurd a
token_printable k (b ∷ bs) rest (inl (letter, passes)) e = word_printable k b bs rest letter passes e
token_printable k (b ∷ bs) rest (inr (inl (digit, passes))) e =
    let no_letter : is_letter b ≡ false = grind (arith, nat_tests, digit) in
    run_printable k (b ∷ bs) (sym (digit_kind (is_letter b) (is_digit b) (Some (word_kind (b ∷ bs))) (run_kind (b ∷ bs)) (option_map kind.Sign (look_up (b ∷ bs) signs)) no_letter digit) ∙ e)
token_printable k (b ∷ bs) rest (inr (inr (s, same, stands))) e =
    subst CanBePrinted (some_same _ _ (sym (sign_read s) ∙ ap kind_of (sym same) ∙ e)) (inr tt)

-- so can all tokens of a text, and not too many brackets stand open behind each
StepPrintable : ℕ → Next → Type 0
StepPrintable n (go t next rest) = CanBePrinted t.kind × (opened_by n t.kind ≤ most_brackets)
StepPrintable n finished = Unit {0}
StepPrintable n (bad why) = Unit {0}

step_printable : {n : ℕ} {at : Place} {text : List ℕ} {x : Next} → Steps n at text x → StepPrintable n x
unfolding StepPrintable
step_printable (ends at gap g) = tt
step_printable (token at gap lexeme rest kind g l k few) = (token_printable kind lexeme rest l.fits k, few)
step_printable (stray at gap rest g some none) = tt
step_printable (misspelled at gap lexeme rest g l k) = tt
step_printable (too_nested at gap lexeme rest kind g l k many) = tt

tokens_printable : {before all : List Token} {at : Place} {text : List ℕ} → LexesFrom before at text all → (ts : List Token) × (all ≡ before ++ ts) × CanAllBePrinted (opened before) (kinds ts)
unfolding StepPrintable
tokens_printable {before = before} (last s) = ([], sym (append-nil before), tt)
tokens_printable {before = before} (more t next rest s l) =
    let ih = tokens_printable l in
    let p = step_printable s in (
      t ∷ ih.0,
      ih.1 ∙ append_assoc before (t ∷ []) ih.0,
      (p.0, p.1, subst (λ n. CanAllBePrinted n (kinds ih.0)) (sym (opened_more (opened before) _ before (before ++ t ∷ []) t refl refl refl)) ih.2),
    )

pub lexed_printable : (text : List ℕ) (ts : List Token) → Lexes text ts → CanAllBePrinted 0 (kinds ts)
lexed_printable text ts l = let h = tokens_printable l in subst (λ us. CanAllBePrinted 0 (kinds us)) (sym h.1) h.2
