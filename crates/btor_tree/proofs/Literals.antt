-- Constants: what digits spell is a word of its width, and the digits of a word spell it.
use Rattle.std.proofs.Common.{◌≡◌, ℕ, zero, suc, ◌+◌, ◌-◌, ◌*◌, ◌/◌, ◌%◌, ◌≤◌, ◌^◌, ◌&&◌, Bool, true, false, cond, eqb, ltb, leb, List, [], ◌∷◌, ◌++◌, length, Option, Some, None, refl, ap, ◌∙◌, subst, arith}
use Rattle.std.specs.Prelude.{is_some, option_and_then}
use Rattle.std.proofs.lemmas.Bool.{cond-true, lt-ltb, le-leb, eq-eqb, ltb-true, leb-true, and_parts, and_from}
use Rattle.std.proofs.lemmas.Option.{same_Some}
use Rattle.text_core.specs.Binary.{binary_digits}
use Rattle.word_core.specs.Words.{BitVector, IsWord}
use Rattle.word_core.specs.declared.word.TheConstants.{WIDEST}
use Rattle.word_core.specs.declared.kinds.Unary.TheVariants.{Neg}
use Rattle.word_core.specs.Table.{unary_of}
use Rattle.word_core.specs.Digits.{digit_number, number_after, digits_value, fitted, read_word}
use Rattle.word_core.specs.laws.Rows.{unary_is_word}
use Rattle.btor_tree.specs.Bytes.{all_of_base, are_digits}
use Rattle.btor_tree.specs.Parts.{is_symbol_byte, all_symbol, is_symbol}
use Rattle.btor_tree.specs.Shapes.{Base, in_binary, in_decimal, in_hex, is_negative, magnitude_of}
use Rattle.btor_tree.specs.Resolving.{minus_word, literal_word}
use Rattle.btor_tree.proofs.Widths.{IsOfWidth}
use Rattle.text_core.proofs.Truths.{cond_some, then_some}
use Rattle.text_core.proofs.BinaryLemmas.{digits_long}
use Rattle.word_core.proofs.BinaryDigits.{digit_fact, number_back}

fitted_is : (w n : ℕ) (c : BitVector) → 1 ≤ w → w ≤ WIDEST → fitted w n ≡ Some c → IsOfWidth c w
fitted_is w n c low high e =
    let p = cond_some (ltb n (2 ^ w)) (Some (record { width = w; bits = n })) c e in
    let same : record { width = w; bits = n } ≡ c = same_Some (record { width = w; bits = n }) c p.1 in
    subst (λ x. IsOfWidth x w) same ((low, high, ltb-true n (2 ^ w) p.0), refl)

read_is : (w base : ℕ) (text : List ℕ) (c : BitVector) → read_word w base text ≡ Some c → IsOfWidth c w
read_is w base text c e =
    let p = cond_some (leb 1 w && leb w WIDEST) (option_and_then (fitted w) (digits_value base text)) c e in
    let wide = and_parts (leb 1 w) (leb w WIDEST) p.0 in
    let n = then_some (fitted w) (digits_value base text) c p.1 in
    fitted_is w n.0 c (leb-true 1 w wide.0) (leb-true w WIDEST wide.1) n.1

minus_is : (a c : BitVector) (w : ℕ) → IsOfWidth a w → minus_word a ≡ Some c → IsOfWidth c w
minus_is a c w h e =
    let p = cond_some (leb a.bits (2 ^ (a.width - 1))) (Some (unary_of Neg a)) c e in
    subst (λ x. IsOfWidth x w) (same_Some (unary_of Neg a) c p.1) (unary_is_word Neg a h.0, h.1)

decimal_is : (b : Bool) (w : ℕ) (digits text : List ℕ) (c : BitVector) → cond b (option_and_then minus_word (read_word w 10 digits)) (read_word w 10 text) ≡ Some c → IsOfWidth c w
decimal_is true w digits text c e =
    let a = then_some minus_word (read_word w 10 digits) c e in
    minus_is a.0 c w (read_is w 10 digits a.0 a.2) a.1
decimal_is false w digits text c e = read_is w 10 text c e

-- what a constant's digits spell is a word of its width
pub literal_is : (k : Base) (w : ℕ) (text : List ℕ) (c : BitVector) → literal_word k w text ≡ Some c → IsOfWidth c w
literal_is in_binary w text c e = read_is w 2 text c (cond_some (eqb (length text) w) (read_word w 2 text) c e).1
literal_is in_decimal w text c e = decimal_is (is_negative text) w (magnitude_of text) text c e
literal_is in_hex w text c e = read_is w 16 text c e

base_push : (xs : List ℕ) (b : ℕ) → all_of_base 2 xs ≡ true → ltb (digit_number b) 2 ≡ true → all_of_base 2 (xs ++ b ∷ []) ≡ true
base_push [] b e f = and_from (ltb (digit_number b) 2) true f refl
base_push (x ∷ xs) b e f =
    let p = and_parts (ltb (digit_number x) 2) (all_of_base 2 xs) e in
    and_from (ltb (digit_number x) 2) (all_of_base 2 (xs ++ b ∷ [])) p.0 (base_push xs b p.1 f)

symbol_push : (xs : List ℕ) (b : ℕ) → all_symbol xs ≡ true → is_symbol_byte b ≡ true → all_symbol (xs ++ b ∷ []) ≡ true
symbol_push [] b e f = and_from (is_symbol_byte b) true f refl
symbol_push (x ∷ xs) b e f =
    let p = and_parts (is_symbol_byte x) (all_symbol xs) e in
    and_from (is_symbol_byte x) (all_symbol (xs ++ b ∷ [])) p.0 (symbol_push xs b p.1 f)

digits_of_base : (w n : ℕ) → all_of_base 2 (binary_digits w n) ≡ true
unfolding binary_digits
digits_of_base zero n = refl
digits_of_base (suc w) n = base_push (binary_digits w (n / 2)) (48 + n % 2) (digits_of_base w (n / 2)) (digit_fact (λ b. ltb (digit_number b) 2 ≡ true) n refl refl)

digits_symbol : (w n : ℕ) → all_symbol (binary_digits w n) ≡ true
unfolding binary_digits
digits_symbol zero n = refl
digits_symbol (suc w) n = symbol_push (binary_digits w (n / 2)) (48 + n % 2) (digits_symbol w (n / 2)) (digit_fact (λ b. is_symbol_byte b ≡ true) n refl refl)

some_symbol : (xs : List ℕ) → 1 ≤ length xs → all_symbol xs ≡ true → is_symbol xs ≡ true
some_symbol [] h e = absurd (omega (arith, h))
some_symbol (x ∷ xs) h e = e

some_digits : (xs : List ℕ) → 1 ≤ length xs → all_of_base 2 xs ≡ true → are_digits 2 xs ≡ true
some_digits [] h e = absurd (omega (arith, h))
some_digits (x ∷ xs) h e = e

-- the digits of a word may stand as a part
pub digits_part : (w n : ℕ) → 1 ≤ w → is_symbol (binary_digits w n) ≡ true
digits_part w n h = some_symbol (binary_digits w n) (omega (arith, h, digits_long w n)) (digits_symbol w n)

-- digits stand for a number where each is one of the base
number_there : (base : ℕ) (bs : List ℕ) (n : ℕ) → is_some (number_after base n bs) ≡ all_of_base base bs
number_there base [] n = refl
number_there base (b ∷ bs) n = choice (ltb (digit_number b) base) _ (number_there base bs (n * base + digit_number b)) where
  choice : (digit : Bool) (o : Option ℕ) → is_some o ≡ all_of_base base bs → is_some (cond digit o None) ≡ digit && all_of_base base bs
  choice true o e = e
  choice false o e = refl

pub digits_tested : (base : ℕ) (text : List ℕ) → is_some (digits_value base text) ≡ are_digits base text
digits_tested base [] = refl
digits_tested base (b ∷ bs) = number_there base (b ∷ bs) 0

pub digits_are : (w n : ℕ) → 1 ≤ w → is_some (digits_value 2 (binary_digits w n)) ≡ true
digits_are w n h = digits_tested 2 (binary_digits w n) ∙ some_digits (binary_digits w n) (omega (arith, h, digits_long w n)) (digits_of_base w n)

value_of_some : (xs : List ℕ) → 1 ≤ length xs → digits_value 2 xs ≡ number_after 2 0 xs
value_of_some [] h = absurd (omega (arith, h))
value_of_some (x ∷ xs) h = refl

-- the digits of a word spell it
literal_here : (c : BitVector) → IsWord c → literal_word in_binary c.width (binary_digits c.width c.bits) ≡ Some c
unfolding binary_digits
literal_here c h =
    let digits = binary_digits c.width c.bits in
    let long = digits_long c.width c.bits in
    cond-true (eqb (length digits) c.width) _ _ (eq-eqb (length digits) c.width long)
    ∙ cond-true (leb 1 c.width && leb c.width WIDEST) _ _ (and_from (leb 1 c.width) (leb c.width WIDEST) (le-leb 1 c.width h.0) (le-leb c.width WIDEST h.1))
    ∙ ap (option_and_then (fitted c.width)) (value_of_some digits (omega (arith, long, h.0)) ∙ number_back binary_digits (λ n. refl) (λ w n. refl) c.width c.bits h.2)
    ∙ cond-true (ltb c.bits (2 ^ c.width)) _ _ (lt-ltb c.bits (2 ^ c.width) h.2)

pub literal_again : (c : BitVector) (w : ℕ) → IsWord c → c.width ≡ w → literal_word in_binary w (binary_digits c.width c.bits) ≡ Some c
literal_again c w h e = subst (λ n. literal_word in_binary n (binary_digits c.width c.bits) ≡ Some c) e (literal_here c h)
