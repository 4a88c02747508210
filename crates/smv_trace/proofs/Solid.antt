-- Bytes of names, numbers and lines: which blanks are none of them.
use Rattle.std.proofs.Common.{◌≡◌, ◌<◌, ◌^◌, ◌/◌, ◌%◌, ◌==◌, ℕ, zero, suc, Bool, true, false, cond, not, ◌&&◌, List, [], ◌∷◌, ◌++◌, length, refl, ◌∙◌, arith}
use Rattle.std.specs.Prelude.{get_or}
use Rattle.std.specs.List.{list_all}
use Rattle.std.specs.Fmt.{decimal, digits, digits_onto, digit_glyph}
use Rattle.std.proofs.lemmas.Bool.{and_parts, and_from, cond-false}
use Rattle.std.proofs.lemmas.Bool.Decides.{nat_tests}
use Rattle.std.proofs.lemmas.List.Folds.{list_all-append}
use Rattle.std.proofs.lemmas.Fmt.{first_decimal, decimal_nonempty}
use Rattle.text_core.specs.Bytes.{is_digit, without_zeros}
use Rattle.smv_text.specs.Bytes.{is_letter, is_blank}
use Rattle.smv_trace_text.specs.Lines.{is_number}

-- the byte is none of these
abbrev pub has_no : ℕ → List ℕ → Bool
has_no mark bs = list_all (λ b. not (b == mark)) bs

-- none of these is a blank
abbrev pub is_solid : List ℕ → Bool
is_solid bs = list_all (λ b. not (is_blank b)) bs

-- a letter first, and no blank
abbrev pub is_named : List ℕ → Bool
is_named [] = false
is_named (b ∷ bs) = is_letter b && is_solid bs

-- ---- weaker and weaker

pub all_weaker : (p q : ℕ → Bool) → ((b : ℕ) → p b ≡ true → q b ≡ true) → (bs : List ℕ) → list_all p bs ≡ true → list_all q bs ≡ true
all_weaker p q f [] h = refl
all_weaker p q f (b ∷ bs) h = let t = and_parts (p b) (list_all p bs) h in and_from (q b) (list_all q bs) (f b t.0) (all_weaker p q f bs t.1)

pub all_both : (p : ℕ → Bool) (xs ys : List ℕ) → list_all p xs ≡ true → list_all p ys ≡ true → list_all p (xs ++ ys) ≡ true
all_both p xs ys h k = list_all-append p xs ys ∙ and_from (list_all p xs) (list_all p ys) h k

solid_other : (b : ℕ) → not (is_blank b) ≡ true → not (b == 10) ≡ true
solid_other b h = grind (arith, nat_tests)

solid_apart : (b : ℕ) → not (is_blank b) ≡ true → not (b == 32) ≡ true
solid_apart b h = grind (arith, nat_tests)

digit_solid : (b : ℕ) → is_digit b ≡ true → not (is_blank b) ≡ true
digit_solid b h = grind (arith, nat_tests)

pub letter_solid : (b : ℕ) → is_letter b ≡ true → is_blank b ≡ false
letter_solid b h = grind (arith, nat_tests)

letter_not : (b : ℕ) → is_letter b ≡ true → not (is_blank b) ≡ true
letter_not b h = grind (arith, nat_tests)

pub one_line : (bs : List ℕ) → is_solid bs ≡ true → has_no 10 bs ≡ true
one_line = all_weaker (λ b. not (is_blank b)) (λ b. not (b == 10)) solid_other

pub spaceless : (bs : List ℕ) → is_solid bs ≡ true → has_no 32 bs ≡ true
spaceless = all_weaker (λ b. not (is_blank b)) (λ b. not (b == 32)) solid_apart

pub digits_solid : (bs : List ℕ) → list_all is_digit bs ≡ true → is_solid bs ≡ true
digits_solid = all_weaker is_digit (λ b. not (is_blank b)) digit_solid

pub named_solid : (bs : List ℕ) → is_named bs ≡ true → is_solid bs ≡ true
named_solid [] h = refl
named_solid (b ∷ bs) h = let t = and_parts (is_letter b) (is_solid bs) h in and_from (not (is_blank b)) (is_solid bs) (letter_not b t.0) t.1

pub named_some : (bs : List ℕ) → is_named bs ≡ true → 0 < length bs
named_some [] h = absurd (let e : false ≡ true = h in cc)
named_some (b ∷ bs) h = omega arith

-- ---- decimals

glyph_digit : (n : ℕ) → is_digit (digit_glyph false (n % 10)) ≡ true
glyph_digit n = let small : n % 10 < 10 = omega arith in grind (arith, nat_tests, small)

onto_digits : (k n : ℕ) (bs : List ℕ) → list_all is_digit bs ≡ true → list_all is_digit (digits_onto k 10 false n bs) ≡ true
onto_digits zero n bs h = h
onto_digits (suc k) n bs h =
    let more = and_from (is_digit (digit_glyph false (n % 10))) (list_all is_digit bs) (glyph_digit n) h in
    either (n / 10 == 0) (digit_glyph false (n % 10) ∷ bs) (digits_onto k 10 false (n / 10) (digit_glyph false (n % 10) ∷ bs)) more (onto_digits k (n / 10) (digit_glyph false (n % 10) ∷ bs) more)
  where
    either : (b : Bool) (xs ys : List ℕ) → list_all is_digit xs ≡ true → list_all is_digit ys ≡ true → list_all is_digit (cond b xs ys) ≡ true
    either true xs ys h k = h
    either false xs ys h k = k

pub decimal_digits : (n : ℕ) → list_all is_digit (decimal n) ≡ true
unfolding digits
decimal_digits n = onto_digits 64 n [] refl

pub decimal_solid : (n : ℕ) → is_solid (decimal n) ≡ true
decimal_solid n = digits_solid (decimal n) (decimal_digits n)

some_number : (bs : List ℕ) → 0 < length bs → list_all is_digit bs ≡ true → is_number bs ≡ true
some_number [] some h = absurd (omega (arith, some))
some_number (b ∷ bs) some h = h

pub decimal_number : (n : ℕ) → n < 2 ^ 64 → is_number (decimal n) ≡ true
decimal_number n small = some_number (decimal n) (decimal_nonempty n small) (decimal_digits n)

kept_zeros : (bs : List ℕ) → 48 < get_or bs 0 0 → without_zeros bs ≡ bs
kept_zeros [] h = refl
kept_zeros (b ∷ bs) h = let other : (b == 48) ≡ false = grind (arith, nat_tests, h) in cond-false (b == 48) (without_zeros bs) (b ∷ bs) other

-- a number that isn't zero is printed with no zero in front
pub decimal_bare : (n : ℕ) → 0 < n → n < 2 ^ 64 → without_zeros (decimal n) ≡ decimal n
decimal_bare n some small = kept_zeros (decimal n) (first_decimal n some small)
