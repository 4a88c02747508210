-- A number is the same whether it is capped digit by digit or at the end, and what is printed reads back.
use Rattle.std.proofs.Common.{◌≡◌, ◌≤◌, ◌<◌, ◌^◌, ◌*◌, ◌+◌, ◌-◌, ℕ, min, Bool, true, false, cond, ltb, leb, ◌&&◌, Option, Some, None, List, [], ◌∷◌, length, refl, sym, ap, ◌∙◌, subst, arith, rules, inl, inr}
use Rattle.std.specs.Prelude.{option_map}
use Rattle.std.proofs.lemmas.Bool.{cases_Bool, cond-true, cond-false, cond_both, and_parts, leb-true, lt-ltb, le-ltb}
use Rattle.std.proofs.lemmas.Str.Parse.{IsNumeralModel, numerals_by_fold}
use Rattle.std.proofs.lemmas.Fmt.{digits_decimal, digits_value-decimal, decimal_nonempty}
use Rattle.std.specs.Fmt.{decimal}
use Rattle.text_core.specs.Bytes.{is_digit}
use Rattle.word_core.specs.Digits as word
use Rattle.word_core.specs.Digits.{digit_number}
use Rattle.btor_tree.specs.Parts.{cap, numeral}
use Rattle.btor_tree.specs.Bytes.{number_after}
use Rattle.text_core.proofs.Numerals.{all_digits, value_after}

-- the digits of base 10 are 0 to 9
pub digit_is : (b : ℕ) → is_digit b ≡ true → digit_number b ≡ b - 48
digit_is b t = cond-true (is_digit b) (b - 48) _ t

pub letter_big : (b : ℕ) → is_digit b ≡ false → 10 ≤ digit_number b
letter_big b f =
    subst (λ n. 10 ≤ n) (sym (cond-false (is_digit b) (b - 48) _ f))
    (cond_both (leb 97 b && leb b 102) (b - 87) _ (λ n. 10 ≤ n) (λ t. let p = leb-true 97 b (and_parts (leb 97 b) (leb b 102) t).0 in omega (arith, p))
    (λ _. cond_both (leb 65 b && leb b 70) (b - 55) 16 (λ n. 10 ≤ n) (λ t. let p = leb-true 65 b (and_parts (leb 65 b) (leb b 70) t).0 in omega (arith, p)) (λ _. omega arith)))

digit_below : (b : ℕ) → ltb (digit_number b) 10 ≡ is_digit b
digit_below b =
    elim (cases_Bool (is_digit b)) [
      | inl t ↦
          let most = leb-true b 57 (and_parts (leb 48 b) (leb b 57) t).1 in
          lt-ltb (digit_number b) 10 (omega (arith, digit_is b t, most)) ∙ sym t
      | inr f ↦ le-ltb (digit_number b) 10 (letter_big b f) ∙ sym f
    ]

number_plain : (bs : List ℕ) (n : ℕ) → word.number_after 10 n bs ≡ cond (all_digits bs) (Some (value_after n bs)) None
number_plain [] n = refl
number_plain (b ∷ bs) n =
    let next = 10 * n + (b - 48) in
    elim (cases_Bool (is_digit b)) [
      | inl t ↦
          let e : n * 10 + digit_number b ≡ next = omega (arith, digit_is b t) in
          cond-true (ltb (digit_number b) 10) _ _ (digit_below b ∙ t) ∙ ap (λ m. word.number_after 10 m bs) e ∙ number_plain bs next ∙ sym (ap (λ d. cond (d && all_digits bs) (Some (value_after next bs)) None) t)
      | inr f ↦ cond-false (ltb (digit_number b) 10) _ _ (digit_below b ∙ f) ∙ sym (ap (λ d. cond (d && all_digits bs) (Some (value_after next bs)) None) f)
    ]

capped : (all : Bool) (n : ℕ) → option_map (λ m. min m cap) (cond all (Some n) None) ≡ cond all (Some (min n cap)) None
capped true n = refl
capped false n = refl

-- a numeral digit by digit
pub numeral_is : (b : ℕ) (bs : List ℕ) → numeral (b ∷ bs) ≡ cond (all_digits (b ∷ bs)) (Some (min (value_after 0 (b ∷ bs)) cap)) None
numeral_is b bs = ap (option_map (λ m. min m cap)) (number_plain (b ∷ bs) 0) ∙ capped (all_digits (b ∷ bs)) (value_after 0 (b ∷ bs))

value_min : (bs : List ℕ) (m n : ℕ) → min m cap ≡ min n cap → min (value_after m bs) cap ≡ min (value_after n bs) cap
value_min [] m n e = e
value_min (b ∷ bs) m n e = value_min bs (10 * m + (b - 48)) (10 * n + (b - 48)) (omega arith)

step : (digit all : Bool) (o : Option ℕ) (x y : ℕ) → o ≡ cond all (Some x) None → x ≡ y → cond digit o None ≡ cond (digit && all) (Some y) None
step false all o x y e f = refl
step true all o x y e f = e ∙ ap (λ z. cond all (Some z) None) f

number_is : (bs : List ℕ) (n : ℕ) → n ≤ cap → number_after n bs ≡ cond (all_digits bs) (Some (min (value_after n bs) cap)) None
number_is [] n le = ap Some (omega arith)
number_is (b ∷ bs) n le =
    let next = 10 * n + (b - 48) in
    step (is_digit b) (all_digits bs) (number_after (min next cap) bs) (min (value_after (min next cap) bs) cap) (min (value_after next bs) cap) (number_is bs (min next cap) (omega arith)) (value_min bs (min next cap) next (omega arith))

pub numeral_from : (bs : List ℕ) → 0 < length bs → number_after 0 bs ≡ numeral bs
numeral_from [] lt = absurd (omega arith)
numeral_from (b ∷ bs) lt = number_is (b ∷ bs) 0 (omega arith) ∙ sym (numeral_is b bs)

decimal_model : IsNumeralModel (λ ds. all_digits ds ≡ true) (value_after 0)
decimal_model = numerals_by_fold _ (search rules) value_after (search rules)

pub decimal_digits : (n : ℕ) → n < 2 ^ 64 → all_digits (decimal n) ≡ true
decimal_digits n lt = digits_decimal decimal_model n lt

pub numeral_again : (n : ℕ) → n < cap → numeral (decimal n) ≡ Some n
numeral_again n lt =
    let small : n < 2 ^ 64 = omega arith in
    sym (numeral_from (decimal n) (decimal_nonempty n small)) ∙ number_is (decimal n) 0 (omega arith) ∙ rw (digits_decimal decimal_model n small, digits_value-decimal decimal_model n small) (ap Some (omega arith))
