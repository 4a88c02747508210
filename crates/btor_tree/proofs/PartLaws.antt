-- The parts of a printed line.
use Rattle.std.proofs.Common.{Bool, ◌&&◌, ◌≡◌, ◌<◌, ◌^◌, ℕ, true, false, not, eqb, List, [], ◌∷◌, ◌++◌, length, refl, ap, ◌∙◌, arith}
use Rattle.std.specs.Fmt.{decimal}
use Rattle.std.proofs.lemmas.Fmt.{decimal_nonempty}
use Rattle.std.proofs.lemmas.Bool.{cond-false, and_parts, and_from, not-true}
use Rattle.std.proofs.lemmas.Bool.Decides.{nat_tests}
use Rattle.std.specs.List.{AllByRecursion}
use Rattle.btor_tree.specs.Fits.{IsSymbolByte, IsSymbol}
use Rattle.text_core.specs.Bytes.{is_digit}
use Rattle.btor_tree.specs.Parts.{Parts, is_symbol_byte, all_symbol, is_symbol, onto_line, raw_lines, clean, is_blank, ends_part, onto_part, parts, line_parts, cap}
use Rattle.btor_tree.specs.Printing.{spaced}
use Rattle.btor_tree.proofs.Numerals.{decimal_digits}
use Rattle.text_core.proofs.Numerals.{all_digits}

all_test : (bs : List ℕ) → AllByRecursion IsSymbolByte bs → all_symbol bs ≡ true
all_test [] h = refl
all_test (b ∷ bs) h =
    let plain = h.0 in
    and_from (is_symbol_byte b) (all_symbol bs) (grind (arith, nat_tests)) (all_test bs h.1)

-- the test of a symbol
pub symbol_test : (bs : List ℕ) → IsSymbol bs → is_symbol bs ≡ true
symbol_test [] h = absurd (omega (arith, h.0))
symbol_test (b ∷ bs) h = all_test (b ∷ bs) h.1

symbol_byte : (b : ℕ) → is_symbol_byte b ≡ true → IsSymbolByte b
symbol_byte b e = (λ f. grind (arith, nat_tests), λ f. grind (arith, nat_tests), λ f. grind (arith, nat_tests), λ f. grind (arith, nat_tests), λ f. grind (arith, nat_tests))

all_tested : (bs : List ℕ) → all_symbol bs ≡ true → AllByRecursion IsSymbolByte bs
all_tested [] e = tt
all_tested (b ∷ bs) e =
    let plain = and_parts (is_symbol_byte b) (all_symbol bs) e in
    (symbol_byte b plain.0, all_tested bs plain.1)

pub symbol_tested : (bs : List ℕ) → is_symbol bs ≡ true → IsSymbol bs
symbol_tested [] e = absurd (let g : false ≡ true = e in cc)
symbol_tested (b ∷ bs) e = (omega arith, all_tested (b ∷ bs) e)

-- no byte of these ends a line
abbrev pub no_end : List ℕ → Bool
no_end [] = true
no_end (b ∷ bs) = not (eqb b 10) && no_end bs

not_blank : (b : ℕ) → is_symbol_byte b ≡ true → is_blank b ≡ false
not_blank b e = grind (arith, nat_tests)

-- a part, before what ends it
parts_at : (p rest : List ℕ) → is_symbol p ≡ true → ends_part rest ≡ true → parts (p ++ rest) ≡ p ∷ parts rest
parts_at [] rest e f = absurd (let g : false ≡ true = e in cc)
parts_at (b ∷ []) rest e f =
    cond-false (is_blank b) (parts rest) (onto_part b (ends_part rest) (parts rest)) (not_blank b (and_parts (is_symbol_byte b) true e).0) ∙ ap (λ t. onto_part b t (parts rest)) f
parts_at (b ∷ (c ∷ bs)) rest e f =
    let plain = and_parts (is_symbol_byte b) (all_symbol (c ∷ bs)) e in
    let next : is_blank c ≡ false = not_blank c (and_parts (is_symbol_byte c) (all_symbol bs) plain.1).0 in
    cond-false (is_blank b) (parts ((c ∷ bs) ++ rest)) (onto_part b (is_blank c) (parts ((c ∷ bs) ++ rest))) (not_blank b plain.0)
    ∙ ap (λ t. onto_part b t (parts ((c ∷ bs) ++ rest))) next ∙ ap (onto_part b false) (parts_at (c ∷ bs) rest plain.1 f)

-- cleaning leaves the bytes of a part as they are
clean_at : (p rest : List ℕ) → all_symbol p ≡ true → clean (p ++ rest) ≡ p ++ clean rest
clean_at [] rest e = refl
clean_at (b ∷ p) rest e =
    let plain = and_parts (is_symbol_byte b) (all_symbol p) e in
    let no_comment : eqb b 59 ≡ false = grind (arith, nat_tests) in
    let no_return : eqb b 13 ≡ false = grind (arith, nat_tests) in
    rw (no_comment, no_return) (ap (λ x. b ∷ x) (clean_at p rest plain.1))

pub line_at : (l rest : List ℕ) → no_end l ≡ true → raw_lines (l ++ 10 ∷ rest) ≡ l ∷ raw_lines rest
line_at [] rest e = refl
line_at (b ∷ l) rest e =
    let free = and_parts (not (eqb b 10)) (no_end l) e in
    rw (not-true (eqb b 10) free.0) (ap (onto_line b) (line_at l rest free.1))

-- each of these may stand as a part
abbrev pub AllParts : Parts → Type 0
AllParts [] = Unit {0}
AllParts (p ∷ ps) = (is_symbol p ≡ true) × AllParts ps

pub parts_append : (xs ys : Parts) → AllParts xs → AllParts ys → AllParts (xs ++ ys)
parts_append [] ys a b = b
parts_append (x ∷ xs) ys a b = (a.0, parts_append xs ys a.1 b)

pub symbol_bytes : (p : List ℕ) → is_symbol p ≡ true → all_symbol p ≡ true
symbol_bytes [] e = refl
symbol_bytes (b ∷ p) e = e

clean_spaced : (ps : Parts) → AllParts ps → clean (spaced ps) ≡ spaced ps
clean_spaced [] a = refl
clean_spaced (p ∷ ps) a = ap (λ x. 32 ∷ x) (clean_at p (spaced ps) (symbol_bytes p a.0) ∙ ap (λ x. p ++ x) (clean_spaced ps a.1))

ends_spaced : (ps : Parts) → ends_part (spaced ps) ≡ true
ends_spaced [] = refl
ends_spaced (p ∷ ps) = refl

parts_spaced : (ps : Parts) → AllParts ps → parts (spaced ps) ≡ ps
parts_spaced [] a = refl
parts_spaced (p ∷ ps) a = parts_at p (spaced ps) a.0 (ends_spaced ps) ∙ ap (λ x. p ∷ x) (parts_spaced ps a.1)

pub joined_parts : (p : List ℕ) (ps : Parts) → is_symbol p ≡ true → AllParts ps → line_parts (p ++ spaced ps) ≡ p ∷ ps
joined_parts p ps e a =
    ap parts (clean_at p (spaced ps) (symbol_bytes p e) ∙ ap (λ x. p ++ x) (clean_spaced ps a)) ∙ parts_at p (spaced ps) e (ends_spaced ps) ∙ ap (λ x. p ∷ x) (parts_spaced ps a)

part_end : (p rest : List ℕ) → all_symbol p ≡ true → no_end rest ≡ true → no_end (p ++ rest) ≡ true
part_end [] rest e f = f
part_end (b ∷ p) rest e f =
    let plain = and_parts (is_symbol_byte b) (all_symbol p) e in
    and_from (not (eqb b 10)) (no_end (p ++ rest)) (grind (arith, nat_tests)) (part_end p rest plain.1 f)

spaced_end : (ps : Parts) → AllParts ps → no_end (spaced ps) ≡ true
spaced_end [] a = refl
spaced_end (p ∷ ps) a = part_end p (spaced ps) (symbol_bytes p a.0) (spaced_end ps a.1)

pub joined_end : (p : List ℕ) (ps : Parts) → is_symbol p ≡ true → AllParts ps → no_end (p ++ spaced ps) ≡ true
joined_end p ps e a = part_end p (spaced ps) (symbol_bytes p e) (spaced_end ps a)

digits_plain : (bs : List ℕ) → all_digits bs ≡ true → all_symbol bs ≡ true
digits_plain [] e = refl
digits_plain (b ∷ bs) e =
    let digit = and_parts (is_digit b) (all_digits bs) e in
    and_from (is_symbol_byte b) (all_symbol bs) (grind (arith, nat_tests)) (digits_plain bs digit.1)

some_part : (bs : List ℕ) → all_symbol bs ≡ true → 0 < length bs → is_symbol bs ≡ true
some_part [] e lt = absurd (omega arith)
some_part (b ∷ bs) e lt = e

pub decimal_part : (n : ℕ) → n < cap → is_symbol (decimal n) ≡ true
decimal_part n lt =
    let small : n < 2 ^ 64 = omega arith in
    some_part (decimal n) (digits_plain (decimal n) (decimal_digits n small)) (decimal_nonempty n small)
