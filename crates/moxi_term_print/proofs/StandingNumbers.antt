-- Numerals and the binary digits of words spell what they are printed from.
use Rattle.std.proofs.Common.{◌≡◌, ℕ, zero, suc, ◌+◌, ◌-◌, ◌*◌, ◌/◌, ◌%◌, ◌<◌, ◌≤◌, ◌^◌, ◌&&◌, Bool, true, ltb, leb, nat_lt, nat_le, List, [], ◌∷◌, ◌++◌, length, Some, refl, ap, ◌∙◌, arith, rules}
use Rattle.std.specs.Prelude.{option_and_then}
use Rattle.std.specs.Fmt.{decimal}
use Rattle.std.proofs.lemmas.Bool.{cond-true, lt-ltb, le-leb, and_parts, and_from}
use Rattle.std.proofs.lemmas.Bool.Decides.{nat_tests}
use Rattle.std.proofs.lemmas.Str.Parse.{IsNumeralModel, numerals_by_fold}
use Rattle.std.proofs.lemmas.Fmt.{digits_decimal, digits_value-decimal, decimal_nonempty}
use Rattle.text_core.specs.Binary.{binary_digits}
use Rattle.word_core.specs.Words.{BitVector, IsWord}
use Rattle.word_core.specs.declared.word.TheConstants.{WIDEST}
use Rattle.word_core.specs.Digits.{digit_number, number_after, digits_value, fitted, read_word}
use Rattle.std.specs.List.{list_all}
use Rattle.moxi_sexpr.specs.Atoms.{is_run}
use Rattle.text_core.specs.Bytes.{is_digit}
use Rattle.moxi_sexpr.specs.Bytes.{is_binary_digit}
use Rattle.moxi_term_reading.specs.SortReading.{index_of, number_or_most}
use Rattle.text_core.proofs.BinaryLemmas.{digits_long}
use Rattle.word_core.proofs.BinaryDigits.{digit_fact, number_back}
use Rattle.text_core.proofs.Numerals.{all_digits, value_after}

-- BINARY DIGITS

value_of_some : (base : ℕ) (xs : List ℕ) → 0 < length xs → digits_value base xs ≡ number_after base 0 xs
value_of_some base [] h = absurd (omega (arith, h))
value_of_some base (x ∷ xs) h = refl

read_back : (base w n : ℕ) (digits : List ℕ) → 1 ≤ w → w ≤ WIDEST → n < 2 ^ w → digits_value base digits ≡ Some n
    → read_word w base digits ≡ Some (record { width = w; bits = n })
read_back base w n digits low high small e =
    cond-true (leb 1 w && leb w WIDEST) _ _ (and_from (leb 1 w) (leb w WIDEST) (le-leb 1 w low) (le-leb w WIDEST high))
    ∙ ap (option_and_then (fitted w)) e
    ∙ cond-true (ltb n (2 ^ w)) _ _ (lt-ltb n (2 ^ w) small)

-- the digits of a word spell it
pub word_again : (c : BitVector) → IsWord c → read_word (length (binary_digits c.width c.bits)) 2 (binary_digits c.width c.bits) ≡ Some c
unfolding binary_digits
word_again c h =
    let digits = binary_digits c.width c.bits in
    let long = digits_long c.width c.bits in
    let some : 0 < length digits = omega (arith, long, h.0) in
    ap (λ w. read_word w 2 digits) long
    ∙ read_back 2 c.width c.bits digits h.0 h.1 h.2 (value_of_some 2 digits some ∙ number_back binary_digits (λ n. refl) (λ w n. refl) c.width c.bits h.2)

-- NUMERALS

numeral_model : IsNumeralModel (λ ds. all_digits ds ≡ true) (value_after 0)
numeral_model = numerals_by_fold _ (search rules) value_after (search rules)

digit_below : (b : ℕ) → is_digit b ≡ true → (digit_number b ≡ b - 48) × (nat_lt (digit_number b) 10 ≡ true)
digit_below b h =
    let p = and_parts (nat_le 48 b) (nat_le b 57) h in
    let low : 48 ≤ b = grind (arith, nat_tests, p.0) in
    let high : b ≤ 57 = grind (arith, nat_tests, p.1) in
    let e : digit_number b ≡ b - 48 = cond-true (nat_le 48 b && nat_le b 57) _ _ h in
    (e, ap (λ d. nat_lt d 10) e ∙ lt-ltb (b - 48) 10 (omega arith))

number_of : (bs : List ℕ) (n m : ℕ) → n ≡ m → all_digits bs ≡ true → number_after 10 n bs ≡ Some (value_after m bs)
number_of [] n m e h = ap Some e
number_of (b ∷ bs) n m e h =
    let p = and_parts (is_digit b) (all_digits bs) h in
    let d = digit_below b p.0 in
    cond-true (nat_lt (digit_number b) 10) _ _ d.1
    ∙ number_of bs (n * 10 + digit_number b) (10 * m + (b - 48)) (ap (λ k. n * 10 + k) d.0 ∙ (let f : n * 10 + (b - 48) ≡ 10 * m + (b - 48) = omega (arith, e) in f)) p.1

-- a printed number is read again
pub index_again : (n : ℕ) → n < 4294967296 → index_of (decimal n) ≡ n
index_again n h =
    let small : n < 2 ^ 64 = omega (arith, h) in
    let value : digits_value 10 (decimal n) ≡ Some n =
    value_of_some 10 (decimal n) (decimal_nonempty n small) ∙ number_of (decimal n) 0 0 refl (digits_decimal numeral_model n small) ∙ ap Some (digits_value-decimal numeral_model n small) in
    ap number_or_most (read_back 10 32 n (decimal n) (omega arith) (omega arith) (omega (arith, h)) value)

-- SPELLING

list_push : (p : ℕ → Bool) (xs : List ℕ) (b : ℕ) → list_all p xs ≡ true → p b ≡ true → list_all p (xs ++ b ∷ []) ≡ true
list_push p [] b e f = and_from (p b) true f refl
list_push p (x ∷ xs) b e f = let q = and_parts (p x) (list_all p xs) e in and_from (p x) (list_all p (xs ++ b ∷ [])) q.0 (list_push p xs b q.1 f)

digits_binary : (w n : ℕ) → list_all is_binary_digit (binary_digits w n) ≡ true
unfolding binary_digits
digits_binary zero n = refl
digits_binary (suc w) n = list_push is_binary_digit (binary_digits w (n / 2)) (48 + n % 2) (digits_binary w (n / 2)) (digit_fact (λ b. is_binary_digit b ≡ true) n refl refl)

run_of : (p : ℕ → Bool) (xs : List ℕ) → 0 < length xs → list_all p xs ≡ true → is_run p xs ≡ true
run_of p [] h e = absurd (omega (arith, h))
run_of p (x ∷ xs) h e = e

-- the digits of a word can be spelled
pub digits_run : (w n : ℕ) → 1 ≤ w → is_run is_binary_digit (binary_digits w n) ≡ true
digits_run w n h = run_of is_binary_digit (binary_digits w n) (omega (arith, h, digits_long w n)) (digits_binary w n)

all_decimal : (bs : List ℕ) → all_digits bs ≡ true → list_all is_digit bs ≡ true
all_decimal [] h = refl
all_decimal (b ∷ bs) h = let q = and_parts (is_digit b) (all_digits bs) h in and_from (is_digit b) (list_all is_digit bs) q.0 (all_decimal bs q.1)

-- a number can be spelled
pub decimal_run : (n : ℕ) → n < 4294967296 → is_run is_digit (decimal n) ≡ true
decimal_run n h =
    let small : n < 2 ^ 64 = omega (arith, h) in
    run_of is_digit (decimal n) (decimal_nonempty n small) (all_decimal (decimal n) (digits_decimal numeral_model n small))
