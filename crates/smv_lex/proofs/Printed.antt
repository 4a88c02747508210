-- A printed token is read again, whatever is behind the blank that follows it.
use Rattle.std.proofs.Common.{◌≡◌, ◌<◌, ◌≤◌, ◌^◌, ◌+◌, ◌*◌, ◌-◌, ℕ, suc, Bool, true, false, cond, ◌&&◌, eqb, Option, Some, None, option_map, List, [], ◌∷◌, ◌++◌, length, take, drop, refl, sym, ap, ◌∙◌, arith}
use Rattle.std.proofs.lemmas.List.{take_at, drop_at}
use Rattle.std.proofs.lemmas.Fmt.{decimal_is_IsNumeral_wide}
use Rattle.std.proofs.lemmas.Bool.{and_parts}
use Rattle.std.proofs.lemmas.Bool.Decides.{nat_tests}
use Rattle.std.proofs.Math.Nat.{pow-le-pow_right}
use Rattle.std.specs.Fmt.{decimal}
use Rattle.std.specs.Prelude.{nat_lt, nat_le, option_and_then}
use Rattle.std.specs.Option.{option_or}
use Rattle.word_core.specs.Words.{BitVector, IsWord}
use Rattle.word_core.specs.declared.word.TheConstants.{WIDEST}
use Rattle.word_core.specs.Digits.{digit_number, number_after, digits_value, read_word}
use Rattle.smv_text.specs.declared.token.Reserved.{Reserved}
use Rattle.smv_text.specs.declared.token.Reserved.TheVariants as word
use Rattle.smv_text.specs.declared.token.Sign.{Sign}
use Rattle.smv_text.specs.declared.token.Sign.TheVariants as sign
use Rattle.smv_text.specs.declared.token.TokenKind.{TokenKind}
use Rattle.smv_text.specs.declared.token.TokenKind.TheVariants as kind
use Rattle.text_core.specs.Bytes.{is_digit}
use Rattle.smv_text.specs.Bytes.{is_letter, is_blank, front_length, look_up}
use Rattle.smv_text.specs.Signs.{sign_bytes, signs}
use Rattle.smv_text.specs.Keywords.{word_bytes}
use Rattle.smv_text.specs.Numbers.{number_of, literal_of, bare, marked_word, parted_word}
use Rattle.smv_text.specs.Words.{in_word, in_run, kind_of, word_kind, run_kind}
use Rattle.smv_lex.specs.Reading.{gap_length, lexeme_length, is_unmarked}
use Rattle.smv_lex.specs.Spelling.{spelled, literal_bytes}
use Rattle.smv_lex.specs.Printable.{IsIdentifier, IsPrintable}
use Rattle.smv_lex.proofs.Spellings.{sign_read, word_read}
use Rattle.text_core.proofs.Numerals.{all_digits, value_from, numerals}

-- the end, or a blank
pub data Apart : List ℕ → Type 0 where
  at_end : Apart []
  blank_first : (r : List ℕ) → Apart (32 ∷ r)

-- the bytes are read as a token of this kind, whatever stands apart behind them
pub record IsReadAs (k : TokenKind) (f : List ℕ) : Type 0 where
  pub some : 0 < length f
  pub gapless : (r : List ℕ) → Apart r → gap_length false (f ++ r) ≡ 0
  pub whole : (r : List ℕ) → Apart r → lexeme_length (f ++ r) ≡ length f
  pub kind_is : kind_of f ≡ Some k

-- signs
sign_some : (s : Sign) → 0 < length (sign_bytes s)
sign_some sign.Open = omega arith
sign_some _ = omega arith

sign_gapless : (s : Sign) (r : List ℕ) → gap_length false (sign_bytes s ++ 32 ∷ r) ≡ 0
sign_gapless sign.Open r = refl
sign_gapless _ r = refl

sign_gapless_last : (s : Sign) → gap_length false (sign_bytes s ++ []) ≡ 0
sign_gapless_last sign.Open = refl
sign_gapless_last _ = refl

sign_whole : (s : Sign) (r : List ℕ) → lexeme_length (sign_bytes s ++ 32 ∷ r) ≡ length (sign_bytes s)
sign_whole sign.Open r = refl
sign_whole _ r = refl

sign_whole_last : (s : Sign) → lexeme_length (sign_bytes s ++ []) ≡ length (sign_bytes s)
sign_whole_last sign.Open = refl
sign_whole_last _ = refl

sign_apart : (s : Sign) (r : List ℕ) → Apart r → gap_length false (sign_bytes s ++ r) ≡ 0
sign_apart s r at_end = sign_gapless_last s
sign_apart s r (blank_first rest) = sign_gapless s rest

pub sign_ends : (s : Sign) (r : List ℕ) → Apart r → lexeme_length (sign_bytes s ++ r) ≡ length (sign_bytes s)
sign_ends s r at_end = sign_whole_last s
sign_ends s r (blank_first rest) = sign_whole s rest

sign_as : (s : Sign) → IsReadAs (kind.Sign s) (sign_bytes s)
sign_as s = record { some = sign_some s; gapless = sign_apart s; whole = sign_ends s; kind_is = sign_read s }

-- words and runs: what stands apart doesn't belong to them
front_true : (b : Bool) (n m : ℕ) → cond b (suc n) 0 ≡ suc m → (b ≡ true) × (n ≡ m)
front_true true n m e = (refl, omega (arith, e))
front_true false n m e = absurd (omega (arith, e))

front_apart : (p : ℕ → List ℕ → Bool) → ((b : ℕ) (bs r : List ℕ) → Apart r → p b (bs ++ r) ≡ p b bs) → ((r : List ℕ) → Apart r → front_length p r ≡ 0)
    → (bs r : List ℕ) → Apart r → front_length p bs ≡ length bs → front_length p (bs ++ r) ≡ length bs
front_apart p same ends [] r a e = ends r a
front_apart p same ends (b ∷ bs) r a e =
    let h = front_true (p b bs) (front_length p bs) (length bs) e in
    ap (λ c. cond c (suc (front_length p (bs ++ r))) 0) (same b bs r a ∙ h.0) ∙ ap suc (front_apart p same ends bs r a h.1)

word_same : (b : ℕ) (bs r : List ℕ) → Apart r → in_word b (bs ++ r) ≡ in_word b bs
word_same b [] r at_end = refl
word_same b [] r (blank_first rest) = refl
word_same b (c ∷ cs) r a = refl

word_ends : (r : List ℕ) → Apart r → front_length in_word r ≡ 0
word_ends r at_end = refl
word_ends r (blank_first rest) = refl

run_same : (b : ℕ) (bs r : List ℕ) → Apart r → in_run b (bs ++ r) ≡ in_run b bs
run_same b bs r a = refl

run_ends : (r : List ℕ) → Apart r → front_length in_run r ≡ 0
run_ends r at_end = refl
run_ends r (blank_first rest) = refl

letter_gapless : (b : ℕ) (rest : List ℕ) → is_letter b ≡ true → gap_length false (b ∷ rest) ≡ 0
letter_gapless b rest e =
    let no_blank : is_blank b ≡ false = grind (arith, nat_tests) in
    let no_dash : eqb b 45 ≡ false = grind (arith, nat_tests) in
    rw (no_blank, no_dash) refl

digit_gapless : (b : ℕ) (rest : List ℕ) → is_digit b ≡ true → gap_length false (b ∷ rest) ≡ 0
digit_gapless b rest e =
    let no_blank : is_blank b ≡ false = grind (arith, nat_tests) in
    let no_dash : eqb b 45 ≡ false = grind (arith, nat_tests) in
    rw (no_blank, no_dash) refl

-- a word: a letter, and bytes that go on with it
pub word_as : (k : TokenKind) (b : ℕ) (bs : List ℕ) → is_letter b ≡ true → front_length in_word bs ≡ length bs → kind_of (b ∷ bs) ≡ Some k → IsReadAs k (b ∷ bs)
word_as k b bs letter e is = record {
  some = omega arith;
  gapless = λ r a. letter_gapless b (bs ++ r) letter;
  whole = λ r a. rw letter (ap suc (front_apart in_word word_same word_ends bs r a e));
  kind_is = is;
}

-- a run: a digit, and bytes that go on with it
pub run_as : (k : TokenKind) (b : ℕ) (bs : List ℕ) → is_digit b ≡ true → front_length in_run bs ≡ length bs → kind_of (b ∷ bs) ≡ Some k → IsReadAs k (b ∷ bs)
run_as k b bs digit e is =
    let no_letter : is_letter b ≡ false = grind (arith, nat_tests) in
    record {
      some = omega arith;
      gapless = λ r a. digit_gapless b (bs ++ r) digit;
      whole = λ r a. rw (no_letter, digit) (ap suc (front_apart in_run run_same run_ends bs r a e));
      kind_is = is;
    }

reserved_as : (w : Reserved) → IsReadAs (kind.Reserved w) (word_bytes w)
reserved_as word.Module = word_as (kind.Reserved word.Module) _ _ refl refl (word_read word.Module)
reserved_as w = word_as (kind.Reserved w) _ _ refl refl (word_read w)

-- the numbers of words have fewer than 64 decimal digits
short : (n : ℕ) → n < 2 ^ WIDEST → n < 10 ^ 64
short n lt = omega (arith, lt)

decimal_some : (n : ℕ) → n < 2 ^ WIDEST → 0 < length (decimal n)
decimal_some n lt = (decimal_is_IsNumeral_wide n (short n lt)).0.0

decimal_digits : (n : ℕ) → n < 2 ^ WIDEST → all_digits (decimal n) ≡ true
decimal_digits n lt = numerals.from (decimal n) (decimal_is_IsNumeral_wide n (short n lt)).0.1

decimal_value : (n : ℕ) → n < 2 ^ WIDEST → value_from 0 (decimal n) ≡ n
decimal_value n lt = let is = decimal_is_IsNumeral_wide n (short n lt) in numerals.same (decimal n) is.0.1 ∙ is.1

pub digit_value : (b : ℕ) → is_digit b ≡ true → (digit_number b ≡ b - 48) × (nat_lt (digit_number b) 10 ≡ true)
digit_value b e = let same : digit_number b ≡ b - 48 = rw e refl in (same, grind (arith, nat_tests, same))

number_is : (bs : List ℕ) (n : ℕ) → all_digits bs ≡ true → number_after 10 n bs ≡ Some (value_from n bs)
number_is [] n e = refl
number_is (b ∷ bs) n e =
    let h = and_parts (is_digit b) (all_digits bs) e in
    let d = digit_value b h.0 in
    rw (d.1, d.0) (number_is bs (n * 10 + (b - 48)) h.1)

run_long : (bs : List ℕ) → all_digits bs ≡ true → front_length in_run bs ≡ length bs
run_long [] e = refl
run_long (b ∷ bs) e =
    let h = and_parts (is_digit b) (all_digits bs) e in
    let goes : in_run b [] ≡ true = grind (arith, nat_tests, h.0) in
    rw goes (ap suc (run_long bs h.1))

small : (n : ℕ) → n < 2 ^ 62 → n < 2 ^ WIDEST
small n lt = omega (arith, lt)

value_again : (n : ℕ) → n < 2 ^ WIDEST → digits_value 10 (decimal n) ≡ Some n
value_again n lt = go (decimal n) (decimal_some n lt) (number_is (decimal n) 0 (decimal_digits n lt) ∙ ap Some (decimal_value n lt))
  where
    go : (ds : List ℕ) → 0 < length ds → number_after 10 0 ds ≡ Some n → digits_value 10 ds ≡ Some n
    go [] some e = absurd (omega (arith, some))
    go (d ∷ ds) some e = e

number_again : (n : ℕ) → n < 2 ^ 62 → number_of (decimal n) ≡ Some n
number_again n lt =
    let below : nat_lt n (2 ^ 62) ≡ true = grind (arith, lt) in
    rw (value_again n (small n lt), below) refl

pub digit_kind : {A : Type 0} (l d : Bool) (x y z : A) → l ≡ false → d ≡ true → cond l x (cond d y z) ≡ y
digit_kind l d x y z e f = rw (e, f) refl

number_as : (n : ℕ) → n < 2 ^ 62 → IsReadAs (kind.Number n) (decimal n)
number_as n lt = go (decimal n) (decimal_some n (small n lt)) (decimal_digits n (small n lt)) (number_again n lt)
  where
    go : (ds : List ℕ) → 0 < length ds → all_digits ds ≡ true → number_of ds ≡ Some n → IsReadAs (kind.Number n) ds
    go [] some all is = absurd (omega (arith, some))
    go (b ∷ bs) some all is =
        let h = and_parts (is_digit b) (all_digits bs) all in
        let no_letter : is_letter b ≡ false = grind (arith, nat_tests, h.0) in
        run_as (kind.Number n) b bs h.0 (run_long bs h.1) (digit_kind (is_letter b) (is_digit b) (Some (word_kind (b ∷ bs))) (run_kind (b ∷ bs)) (option_map kind.Sign (look_up (b ∷ bs) signs)) no_letter h.0
        ∙ ap (λ o. option_or (option_map kind.Number o) (option_map kind.Literal (literal_of (b ∷ bs)))) is)

-- word literals
unmarked : (bs rest : List ℕ) → all_digits bs ≡ true → front_length is_unmarked (bs ++ 95 ∷ rest) ≡ length bs
unmarked [] rest e = refl
unmarked (b ∷ bs) rest e =
    let h = and_parts (is_digit b) (all_digits bs) e in
    let free : eqb b 95 ≡ false = grind (arith, nat_tests, h.0) in
    rw free (ap suc (unmarked bs rest h.1))

bare_digits : (bs : List ℕ) → all_digits bs ≡ true → bare bs ≡ bs
bare_digits [] e = refl
bare_digits (b ∷ bs) e =
    let h = and_parts (is_digit b) (all_digits bs) e in
    let free : eqb b 95 ≡ false = grind (arith, nat_tests, h.0) in
    rw free (ap (λ x. b ∷ x) (bare_digits bs h.1))

run_marked : (bs rest : List ℕ) → all_digits bs ≡ true → all_digits rest ≡ true → front_length in_run (bs ++ 95 ∷ rest) ≡ length (bs ++ 95 ∷ rest)
run_marked [] rest e f = ap suc (run_long rest f)
run_marked (b ∷ bs) rest e f =
    let h = and_parts (is_digit b) (all_digits bs) e in
    let goes : in_run b [] ≡ true = grind (arith, nat_tests, h.0) in
    rw goes (ap suc (run_marked bs rest h.1 f))

small_bits : (w : BitVector) → IsWord w → w.bits < 2 ^ WIDEST
small_bits w is = let up : 2 ^ w.width ≤ 2 ^ WIDEST = pow-le-pow_right {n = 2} (omega arith) is.1 in omega (arith, up, is.2)

literal_again : (w : BitVector) → IsWord w → parted_word (decimal w.width ++ 95 ∷ decimal w.bits) 10 ≡ Some w
literal_again w is =
    let narrow : w.width < 2 ^ WIDEST = omega (arith, is.1) in
    let bits = small_bits w is in
    let ds = decimal w.width in
    let es = decimal w.bits in
    let at : front_length is_unmarked (ds ++ 95 ∷ es) ≡ length ds = unmarked ds es (decimal_digits w.width narrow) in
    ap (λ n. marked_word 10 (take n (ds ++ 95 ∷ es)) (drop n (ds ++ 95 ∷ es))) at
    ∙ ap (λ x. marked_word 10 x (drop (length ds) (ds ++ 95 ∷ es))) (take_at ds (95 ∷ es) (length ds) refl)
    ∙ ap (marked_word 10 ds) (drop_at ds (95 ∷ es) (length ds) refl)
    ∙ ap (option_and_then (λ n. read_word n 10 (bare es))) (value_again w.width narrow)
    ∙ ap (read_word w.width 10) (bare_digits es (decimal_digits w.bits bits))
    ∙ fits (value_again w.bits bits)
  where
    fits : digits_value 10 (decimal w.bits) ≡ Some w.bits → read_word w.width 10 (decimal w.bits) ≡ Some w
    fits e =
        let wide : (nat_le 1 w.width && nat_le w.width WIDEST) ≡ true = grind (arith, nat_tests, is) in
        let inside : nat_lt w.bits (2 ^ w.width) ≡ true = grind (arith, nat_tests, is) in
        rw (wide, e, inside) refl

literal_as : (w : BitVector) → IsWord w → IsReadAs (kind.Literal w) (literal_bytes w)
literal_as w is =
    let narrow : w.width < 2 ^ WIDEST = omega (arith, is.1) in
    run_as (kind.Literal w) 48 (117 ∷ 100 ∷ (decimal w.width ++ 95 ∷ decimal w.bits)) refl
    (ap (λ n. suc (suc n)) (run_marked (decimal w.width) (decimal w.bits) (decimal_digits w.width narrow) (decimal_digits w.bits (small_bits w is))))
    (ap (λ o. option_map_literal o) (literal_again w is))
  where
    option_map_literal : Option BitVector → Option TokenKind
    option_map_literal None = None
    option_map_literal (Some v) = Some (kind.Literal v)

word_length_is : {A : Type 0} (l : Bool) (x y : A) → l ≡ true → cond l x y ≡ x
word_length_is l x y e = rw e refl

-- what doesn't begin with a letter is no identifier
no_name : (b : ℕ) (bs : List ℕ) → is_letter b ≡ false → kind_of (b ∷ bs) ≡ Some (kind.Ident (b ∷ bs)) → ⊥
no_name b bs l e = go (is_letter b) (is_digit b) l e
  where
    by_sign : (o : Option Sign) → option_map kind.Sign o ≡ Some (kind.Ident (b ∷ bs)) → ⊥
    by_sign None e = cc
    by_sign (Some s) e = cc

    by_literal : (o : Option BitVector) → option_map kind.Literal o ≡ Some (kind.Ident (b ∷ bs)) → ⊥
    by_literal None e = cc
    by_literal (Some w) e = cc

    by_number : (o : Option ℕ) → option_or (option_map kind.Number o) (option_map kind.Literal (literal_of (b ∷ bs))) ≡ Some (kind.Ident (b ∷ bs)) → ⊥
    by_number None e = by_literal (literal_of (b ∷ bs)) e
    by_number (Some n) e = cc

    go : (l d : Bool) → l ≡ false → cond l (Some (word_kind (b ∷ bs))) (cond d (run_kind (b ∷ bs)) (option_map kind.Sign (look_up (b ∷ bs) signs))) ≡ Some (kind.Ident (b ∷ bs)) → ⊥
    go true d l e = cc
    go false true l e = by_number (number_of (b ∷ bs)) e
    go false false l e = by_sign (look_up (b ∷ bs) signs) e

none_some : (k : TokenKind) (o : Option TokenKind) → o ≡ None → o ≡ Some k → ⊥
none_some k o e f = cc

-- each token that can be printed is read as itself
identifier_as : (n : List ℕ) → IsIdentifier n → IsReadAs (kind.Ident n) n
identifier_as [] i = absurd (none_some (kind.Ident []) (kind_of []) refl i.read)
identifier_as (b ∷ bs) i = by_letter (is_letter b) refl
  where
    by_letter : (l : Bool) → is_letter b ≡ l → IsReadAs (kind.Ident (b ∷ bs)) (b ∷ bs)
    by_letter true e =
        let whole : suc (front_length in_word bs) ≡ suc (length bs) = sym (word_length_is (is_letter b) (suc (front_length in_word bs)) _ e) ∙ i.whole in
        word_as (kind.Ident (b ∷ bs)) b bs e (omega (arith, whole)) i.read
    by_letter false e = absurd (no_name b bs e i.read)

pub printed_as : (k : TokenKind) → IsPrintable k → IsReadAs k (spelled k)
unfolding spelled
printed_as (kind.Reserved w) p = reserved_as w
printed_as kind.Refused p = absurd p
printed_as (kind.Ident n) p = identifier_as n p
printed_as (kind.Number n) p = number_as n p
printed_as (kind.Literal w) p = literal_as w p
printed_as (kind.Sign s) p = sign_as s
