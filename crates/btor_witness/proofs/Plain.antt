-- The lines of a printed text and their parts.
use Rattle.std.proofs.Common.{◌≡◌, ℕ, zero, suc, ◌+◌, ◌-◌, ◌*◌, ◌/◌, ◌%◌, ◌^◌, ◌<◌, ◌≤◌, Bool, true, false, not, eqb, ◌==◌, leb, ◌&&◌, ◌||◌, List, [], ◌∷◌, ◌++◌, length, Some, refl, sym, ap, ◌∙◌, arith, add-one}
use Rattle.std.specs.Fmt.{decimal}
use Rattle.std.proofs.Math.Nat.{pow-suc}
use Rattle.std.proofs.lemmas.List.{append-nil, length_push}
use Rattle.std.proofs.lemmas.Bool.{cond-true, cond-false, and_parts, and_from, le-leb}
use Rattle.std.proofs.lemmas.Bool.Decides.{nat_tests}
use Rattle.text_core.specs.Binary.{binary_digits}
use Rattle.word_core.specs.Words.{BitVector, IsWord}
use Rattle.word_core.specs.declared.word.TheConstants.{WIDEST}
use Rattle.text_core.specs.Bytes.{is_digit}
use Rattle.btor_tree.specs.Parts.{Parts, is_blank, ends_part, onto_part, parts, onto_line, raw_lines}
use Rattle.btor_tree.proofs.Numerals.{decimal_digits}
use Rattle.btor_witness.specs.Bytes.{is_binary, all_binary, bits_after, word_of, without_return, line_parts}
use Rattle.btor_witness.specs.Shapes.{is_passed}
use Rattle.text_core.proofs.Numerals.{all_digits}

-- a byte that ends neither a line nor a part
abbrev pub is_solid : ℕ → Bool
is_solid b = not ((b == 9) || ((b == 32) || ((b == 10) || (b == 13))))

abbrev pub all_solid : List ℕ → Bool
all_solid [] = true
all_solid (b ∷ bs) = is_solid b && all_solid bs

-- a byte that ends no line
abbrev pub is_free : ℕ → Bool
is_free b = not ((b == 10) || (b == 13))

abbrev pub all_free : List ℕ → Bool
all_free [] = true
all_free (b ∷ bs) = is_free b && all_free bs

digit_solid : (b : ℕ) → is_digit b ≡ true → is_solid b ≡ true
digit_solid b e = grind (arith, nat_tests)

pub digits_solid : (bs : List ℕ) → all_digits bs ≡ true → all_solid bs ≡ true
digits_solid [] e = refl
digits_solid (b ∷ bs) e =
    let p = and_parts (is_digit b) (all_digits bs) e in
    and_from (is_solid b) (all_solid bs) (digit_solid b p.0) (digits_solid bs p.1)

solid_free : (b : ℕ) → is_solid b ≡ true → is_free b ≡ true
solid_free b e = grind (arith, nat_tests)

pub free_from : (bs : List ℕ) → all_solid bs ≡ true → all_free bs ≡ true
free_from [] e = refl
free_from (b ∷ bs) e =
    let p = and_parts (is_solid b) (all_solid bs) e in
    and_from (is_free b) (all_free bs) (solid_free b p.0) (free_from bs p.1)

pub free_append : (xs ys : List ℕ) → all_free xs ≡ true → all_free ys ≡ true → all_free (xs ++ ys) ≡ true
free_append [] ys e f = f
free_append (x ∷ xs) ys e f =
    let p = and_parts (is_free x) (all_free xs) e in
    and_from (is_free x) (all_free (xs ++ ys)) p.0 (free_append xs ys p.1 f)

free_line : (b : ℕ) → is_free b ≡ true → eqb b 10 ≡ false
free_line b e = grind (arith, nat_tests)

free_return : (b : ℕ) → is_free b ≡ true → eqb b 13 ≡ false
free_return b e = grind (arith, nat_tests)

solid_part : (b : ℕ) → is_solid b ≡ true → is_blank b ≡ false
solid_part b e = grind (arith, nat_tests)

-- a line before its end
pub line_at : (l rest : List ℕ) → all_free l ≡ true → raw_lines (l ++ 10 ∷ rest) ≡ l ∷ raw_lines rest
line_at [] rest e = refl
line_at (b ∷ l) rest e =
    let p = and_parts (is_free b) (all_free l) e in
    cond-false (eqb b 10) _ _ (free_line b p.0) ∙ ap (onto_line b) (line_at l rest p.1)

pub no_return : (l : List ℕ) → all_free l ≡ true → without_return l ≡ l
no_return [] e = refl
no_return (b ∷ []) e = cond-false (eqb b 13) _ _ (free_return b (and_parts (is_free b) true e).0)
no_return (b ∷ c ∷ l) e = ap (λ x. b ∷ x) (no_return (c ∷ l) (and_parts (is_free b) (all_free (c ∷ l)) e).1)

-- a part before what ends it
pub parts_at : (b : ℕ) (bs rest : List ℕ) → all_solid (b ∷ bs) ≡ true → ends_part rest ≡ true → parts ((b ∷ bs) ++ rest) ≡ (b ∷ bs) ∷ parts rest
parts_at b [] rest e f =
    cond-false (is_blank b) (parts rest) (onto_part b (ends_part rest) (parts rest)) (solid_part b (and_parts (is_solid b) true e).0) ∙ ap (λ t. onto_part b t (parts rest)) f
parts_at b (c ∷ bs) rest e f =
    let solid = and_parts (is_solid b) (all_solid (c ∷ bs)) e in
    let next : is_blank c ≡ false = solid_part c (and_parts (is_solid c) (all_solid bs) solid.1).0 in
    cond-false (is_blank b) (parts ((c ∷ bs) ++ rest)) (onto_part b (is_blank c) (parts ((c ∷ bs) ++ rest))) (solid_part b solid.0)
    ∙ ap (λ t. onto_part b t (parts ((c ∷ bs) ++ rest))) next ∙ ap (onto_part b false) (parts_at c bs rest solid.1 f)

pub one_part : (b : ℕ) (bs : List ℕ) → all_solid (b ∷ bs) ≡ true → line_parts (b ∷ bs) ≡ (b ∷ bs) ∷ []
one_part b bs e =
    ap parts (no_return (b ∷ bs) (free_from (b ∷ bs) e)) ∙ ap parts (sym (append-nil (b ∷ bs))) ∙ parts_at b bs [] e refl

pub two_parts : (b : ℕ) (bs : List ℕ) (c : ℕ) (cs : List ℕ) → all_solid (b ∷ bs) ≡ true → all_solid (c ∷ cs) ≡ true → line_parts ((b ∷ bs) ++ 32 ∷ (c ∷ cs)) ≡ (b ∷ bs) ∷ (c ∷ cs) ∷ []
two_parts b bs c cs e f =
    let free = free_append (b ∷ bs) (32 ∷ (c ∷ cs)) (free_from (b ∷ bs) e) (free_from (c ∷ cs) f) in
    ap parts (no_return ((b ∷ bs) ++ 32 ∷ (c ∷ cs)) free) ∙ parts_at b bs (32 ∷ (c ∷ cs)) e refl
    ∙ ap (λ x. (b ∷ bs) ∷ x) (ap parts (sym (append-nil (c ∷ cs))) ∙ parts_at c cs [] f refl)

-- binary digits
binary_digit : (b : ℕ) → is_binary b ≡ true → is_digit b ≡ true
binary_digit b e = grind (arith, nat_tests)

pub binary_solid : (bs : List ℕ) → all_binary bs ≡ true → all_solid bs ≡ true
binary_solid [] e = refl
binary_solid (b ∷ bs) e =
    let p = and_parts (is_binary b) (all_binary bs) e in
    and_from (is_solid b) (all_solid bs) (digit_solid b (binary_digit b p.0)) (binary_solid bs p.1)

binary_push : (bs : List ℕ) (b : ℕ) → all_binary bs ≡ true → is_binary b ≡ true → all_binary (bs ++ b ∷ []) ≡ true
binary_push [] b e f = and_from (is_binary b) true f refl
binary_push (c ∷ bs) b e f =
    let p = and_parts (is_binary c) (all_binary bs) e in
    and_from (is_binary c) (all_binary (bs ++ b ∷ [])) p.0 (binary_push bs b p.1 f)

bits_push : (bs : List ℕ) (n b : ℕ) → bits_after n (bs ++ b ∷ []) ≡ 2 * bits_after n bs + (b - 48)
bits_push [] n b = refl
bits_push (c ∷ bs) n b = bits_push bs (2 * n + (c - 48)) b

last_digit : (n : ℕ) → is_binary (48 + n % 2) ≡ true
last_digit n = two (n % 2) (omega arith) where
  two : (m : ℕ) → m < 2 → is_binary (48 + m) ≡ true
  two zero lt = refl
  two (suc zero) lt = refl
  two (suc (suc m)) lt = absurd (omega (arith, lt))

pub digits_binary : (w n : ℕ) → all_binary (binary_digits w n) ≡ true
unfolding binary_digits
digits_binary zero n = refl
digits_binary (suc w) n = binary_push (binary_digits w (n / 2)) (48 + n % 2) (digits_binary w (n / 2)) (last_digit n)

pub digits_long : (w n : ℕ) → length (binary_digits w n) ≡ w
unfolding binary_digits
digits_long zero n = refl
digits_long (suc w) n = length_push (binary_digits w (n / 2)) (48 + n % 2) ∙ ap (λ k. k + 1) (digits_long w (n / 2)) ∙ add-one w

pub digits_value : (w n : ℕ) → n < 2 ^ w → bits_after 0 (binary_digits w n) ≡ n
unfolding binary_digits
digits_value zero n lt = omega (arith, lt)
digits_value (suc w) n lt =
    let half : n / 2 < 2 ^ w = omega (arith, lt, pow-suc 2 w) in
    bits_push (binary_digits w (n / 2)) 0 (48 + n % 2) ∙ omega (arith, digits_value w (n / 2) half)

pub word_again : (x : BitVector) → IsWord x → word_of (binary_digits x.width x.bits) ≡ Some x
word_again x h =
    let digits = binary_digits x.width x.bits in
    let long = digits_long x.width x.bits in
    let fits : length digits ≤ WIDEST = omega (arith, long, h.1) in
    cond-true (leb (length digits) WIDEST) _ _ (le-leb (length digits) WIDEST fits)
    ∙ ap (λ n. Some (record { width = n; bits = bits_after 0 digits })) long ∙ ap (λ n. Some (record { width = x.width; bits = n })) (digits_value x.width x.bits h.2)

-- decimal digits
pub decimal_solid : (n : ℕ) → n < 2 ^ 64 → all_solid (decimal n) ≡ true
decimal_solid n lt = digits_solid (decimal n) (decimal_digits n lt)

-- a line that begins with a digit isn't passed over
digit_read : (b : ℕ) → is_digit b ≡ true → eqb b 59 ≡ false
digit_read b e = grind (arith, nat_tests)

pub digits_read : (b : ℕ) (bs : List ℕ) (ps : Parts) → all_digits (b ∷ bs) ≡ true → is_passed ((b ∷ bs) ∷ ps) ≡ false
digits_read b bs ps e = digit_read b (and_parts (is_digit b) (all_digits bs) e).0
