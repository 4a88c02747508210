-- What operators give on the words of values.
use Rattle.std.proofs.Common.{◌≡◌, ℕ, ◌+◌, ◌-◌, ◌^◌, ◌≤◌, Bool, true, false, not, ◌&&◌, ◌||◌, cond, eqb, List, [], ◌∷◌, ◌++◌, length, map, refl, sym, ap, ◌∙◌, arith}
use Rattle.std.specs.List.{list_all, list_any}
use Rattle.std.proofs.Math.Bool.{and_assoc, or_assoc}
use Rattle.std.proofs.lemmas.Bool.{eq-eqb}
use Rattle.std.proofs.lemmas.List.Folds.{list_all-append}
use Rattle.word_core.specs.Words.{BitVector}
use Rattle.word_core.specs.Table.{binary_of, bit_of, ite_of, sext_of, uext_of, is_minus}
use Rattle.word_core.specs.declared.kinds.Binary.{Binary}
use Rattle.word_core.specs.declared.kinds.Binary.TheVariants as two
use Rattle.moxi_terms.specs.declared.data.Sort.{Sort}
use Rattle.moxi_terms.specs.declared.data.Sort.TheVariants.{Truth, Bits, Choice}
use Rattle.moxi_terms.specs.declared.data.Datum.{Datum}
use Rattle.moxi_terms.specs.declared.data.Datum.TheVariants as datum
use Rattle.moxi_terms.specs.declared.term.Enumeration.{Enumeration}
use Rattle.moxi_terms.specs.Operators.{all_differ, all_equal, folded, implied, is_comparison, parity, same, same_truth, truth_of, word_of}
use Rattle.moxi_terms.specs.Sorts.{IsOf}
use Rattle.moxi_terms.proofs.SortLaws.{AllOf}
use Rattle.moxi_lines.specs.Codes.{code_of}
use Rattle.moxi_lines.specs.TermLines.{neighbours, pairs_of}
use Rattle.moxi_lines.proofs.Chains.{fold_all, fold_words, implied_word, pair_words}
use Rattle.moxi_scripts.specs.laws.WholeParts.{map_append}

-- the word of a truth value
abbrev pub bit : Bool → BitVector
bit b = record { width = 1; bits = bit_of b }

abbrev pub codes : List Enumeration → List Datum → List BitVector
codes es ds = map (code_of es) ds

pub code_truth : (es : List Enumeration) (d : Datum) → IsOf es Truth d → code_of es d ≡ bit (truth_of d)
code_truth es (datum.Truth b) h = refl
code_truth es (datum.Bits v) h = absurd h
code_truth es (datum.Constant n i) h = absurd h

pub code_bits : (es : List Enumeration) (w : ℕ) (d : Datum) → IsOf es (Bits w) d → code_of es d ≡ word_of d
code_bits es w (datum.Truth b) h = absurd h
code_bits es w (datum.Bits v) h = refl
code_bits es w (datum.Constant n i) h = absurd h

-- ---- truth values

pub and_bit : (a b : Bool) → binary_of two.And (bit a) (bit b) ≡ bit (a && b)
and_bit true true = refl
and_bit true false = refl
and_bit false true = refl
and_bit false false = refl

pub or_bit : (a b : Bool) → binary_of two.Or (bit a) (bit b) ≡ bit (a || b)
or_bit true true = refl
or_bit true false = refl
or_bit false true = refl
or_bit false false = refl

xor_bit : (a b : Bool) → binary_of two.Xor (bit a) (bit b) ≡ bit (not (same_truth a b))
xor_bit true true = refl
xor_bit true false = refl
xor_bit false true = refl
xor_bit false false = refl

pub implies_bit : (a b : Bool) → binary_of two.Implies (bit a) (bit b) ≡ bit (not a || b)
implies_bit true true = refl
implies_bit true false = refl
implies_bit false true = refl
implies_bit false false = refl

pub and_true : (a : Bool) → a ≡ (a && true)
and_true true = refl
and_true false = refl

pub or_false : (a : Bool) → a ≡ (a || false)
or_false true = refl
or_false false = refl

twice : (b : Bool) → not (not b) ≡ b
twice true = refl
twice false = refl

pub and_words : (es : List Enumeration) (b : Bool) (ds : List Datum) → AllOf es Truth ds → fold_words two.And (bit b) (codes es ds) ≡ bit (b && list_all truth_of ds)
and_words es b [] a = ap bit (and_true b)
and_words es b (d ∷ ds) a =
    ap (λ z. fold_words two.And (binary_of two.And (bit b) z) (codes es ds)) (code_truth es d a.0) ∙ ap (λ z. fold_words two.And z (codes es ds)) (and_bit b (truth_of d))
    ∙ and_words es (b && truth_of d) ds a.1 ∙ ap bit (and_assoc b (truth_of d) (list_all truth_of ds))

pub or_words : (es : List Enumeration) (b : Bool) (ds : List Datum) → AllOf es Truth ds → fold_words two.Or (bit b) (codes es ds) ≡ bit (b || list_any truth_of ds)
or_words es b [] a = ap bit (or_false b)
or_words es b (d ∷ ds) a =
    ap (λ z. fold_words two.Or (binary_of two.Or (bit b) z) (codes es ds)) (code_truth es d a.0) ∙ ap (λ z. fold_words two.Or z (codes es ds)) (or_bit b (truth_of d))
    ∙ or_words es (b || truth_of d) ds a.1 ∙ ap bit (or_assoc b (truth_of d) (list_any truth_of ds))

xor_words : (es : List Enumeration) (b : Bool) (ds : List Datum) → AllOf es Truth ds → fold_words two.Xor (bit b) (codes es ds) ≡ bit (parity b ds)
xor_words es b [] a = refl
xor_words es b (d ∷ ds) a =
    ap (λ z. fold_words two.Xor (binary_of two.Xor (bit b) z) (codes es ds)) (code_truth es d a.0) ∙ ap (λ z. fold_words two.Xor z (codes es ds)) (xor_bit b (truth_of d))
    ∙ xor_words es (not (same_truth b (truth_of d))) ds a.1

pub parity_words : (es : List Enumeration) (d : Datum) (ds : List Datum) → AllOf es Truth (d ∷ ds) → fold_words two.Xor (code_of es d) (codes es ds) ≡ bit (parity false (d ∷ ds))
parity_words es d ds a =
    ap (λ z. fold_words two.Xor z (codes es ds)) (code_truth es d a.0) ∙ xor_words es (truth_of d) ds a.1 ∙ ap (λ b. bit (parity b ds)) (sym (twice (truth_of d)))

pub implied_words : (es : List Enumeration) (d : Datum) (ds : List Datum) → AllOf es Truth (d ∷ ds) → implied_word (code_of es d) (codes es ds) ≡ bit (implied d ds)
implied_words es d [] a = code_truth es d a.0
implied_words es d (e ∷ ds) a =
    ap (λ z. binary_of two.Implies z (implied_word (code_of es e) (codes es ds))) (code_truth es d a.0) ∙ ap (binary_of two.Implies (bit (truth_of d))) (implied_words es e ds a.1)
    ∙ implies_bit (truth_of d) (implied e ds)

-- ---- comparisons

all_ones : (b : Bool) (bs : List Bool) → fold_words two.And (bit b) (map bit bs) ≡ bit (b && list_all (λ c. c) bs)
all_ones b [] = ap bit (and_true b)
all_ones b (c ∷ bs) = ap (λ z. fold_words two.And z (map bit bs)) (and_bit b c) ∙ all_ones (b && c) bs ∙ ap bit (and_assoc b c (list_all (λ c. c) bs))

fold_bits : (bs : List Bool) → 1 ≤ length bs → fold_all two.And (map bit bs) ≡ bit (list_all (λ c. c) bs)
fold_bits [] l = absurd (omega (arith, l))
fold_bits (b ∷ bs) l = all_ones b bs

both_same : (m n : ℕ) (b : Bool) → m ≡ n → b ≡ (eqb m n && b)
both_same m n b e = ap (λ c. c && b) (sym (eq-eqb m n e))

-- the words of two values of a sort are one where the values are
pub same_code : (es : List Enumeration) (s : Sort) (d e : Datum) → IsOf es s d → IsOf es s e → eqb (code_of es d).bits (code_of es e).bits ≡ same d e
same_code es Truth (datum.Truth true) (datum.Truth true) h i = refl
same_code es Truth (datum.Truth true) (datum.Truth false) h i = refl
same_code es Truth (datum.Truth false) (datum.Truth true) h i = refl
same_code es Truth (datum.Truth false) (datum.Truth false) h i = refl
same_code es Truth (datum.Truth a) (datum.Bits v) h i = absurd i
same_code es Truth (datum.Truth a) (datum.Constant n k) h i = absurd i
same_code es Truth (datum.Bits v) e h i = absurd h
same_code es Truth (datum.Constant n k) e h i = absurd h
same_code es (Bits w) (datum.Truth a) e h i = absurd h
same_code es (Bits w) (datum.Bits u) (datum.Truth a) h i = absurd i
same_code es (Bits w) (datum.Bits u) (datum.Bits v) h i = both_same u.width v.width (eqb u.bits v.bits) (h.0 ∙ sym i.0)
same_code es (Bits w) (datum.Bits u) (datum.Constant n k) h i = absurd i
same_code es (Bits w) (datum.Constant n k) e h i = absurd h
same_code es (Choice c) (datum.Truth a) e h i = absurd h
same_code es (Choice c) (datum.Bits u) e h i = absurd h
same_code es (Choice c) (datum.Constant n k) (datum.Truth a) h i = absurd i
same_code es (Choice c) (datum.Constant n k) (datum.Bits u) h i = absurd i
same_code es (Choice c) (datum.Constant n k) (datum.Constant m j) h i = both_same n m (eqb k j) (h.0 ∙ sym i.0)

abbrev tests : (Datum → Datum → Bool) → List (Datum × Datum) → List Bool
tests f xs = map (λ (x : Datum × Datum). f x.0 x.1) xs

neighbour_words : (es : List Enumeration) (s : Sort) (d : Datum) (ds : List Datum) → AllOf es s (d ∷ ds) → pair_words two.Eq (neighbours (code_of es d) (codes es ds)) ≡ map bit (tests same (neighbours d ds))
neighbour_words es s d [] a = refl
neighbour_words es s d (e ∷ ds) a =
    ap (λ b. bit b ∷ pair_words two.Eq (neighbours (code_of es e) (codes es ds))) (same_code es s d e a.0 a.1.0)
    ∙ ap (λ xs. bit (same d e) ∷ xs) (neighbour_words es s e ds a.1)

all_neighbours : (d : Datum) (ds : List Datum) → list_all (λ b. b) (tests same (neighbours d ds)) ≡ all_equal d ds
all_neighbours d [] = refl
all_neighbours d (e ∷ ds) = ap (λ b. same d e && b) (all_neighbours e ds)

pub equal_words : (es : List Enumeration) (s : Sort) (d : Datum) (ds : List Datum) → 1 ≤ length ds → AllOf es s (d ∷ ds) → fold_all two.And (pair_words two.Eq (neighbours (code_of es d) (codes es ds))) ≡ bit (all_equal d ds)
equal_words es s d [] l a = absurd (omega (arith, l))
equal_words es s d (e ∷ ds) l a =
    ap (fold_all two.And) (neighbour_words es s d (e ∷ ds) a) ∙ fold_bits (tests same (neighbours d (e ∷ ds))) (omega arith) ∙ ap bit (all_neighbours d (e ∷ ds))

abbrev differ : Datum → Datum → Bool
differ d e = not (same d e)

each_words : (es : List Enumeration) (s : Sort) (d : Datum) (ds : List Datum) → IsOf es s d → AllOf es s ds → pair_words two.Neq (map (λ y. (code_of es d, y)) (codes es ds)) ≡ map bit (tests differ (map (λ e. (d, e)) ds))
each_words es s d [] h a = refl
each_words es s d (e ∷ ds) h a =
    ap (λ b. bit (not b) ∷ pair_words two.Neq (map (λ y. (code_of es d, y)) (codes es ds))) (same_code es s d e h a.0)
    ∙ ap (λ xs. bit (differ d e) ∷ xs) (each_words es s d ds h a.1)

pairs_words : (es : List Enumeration) (s : Sort) (ds : List Datum) → AllOf es s ds → pair_words two.Neq (pairs_of (codes es ds)) ≡ map bit (tests differ (pairs_of ds))
pairs_words es s [] a = refl
pairs_words es s (d ∷ ds) a =
    map_append (λ (x : BitVector × BitVector). binary_of two.Neq x.0 x.1) (map (λ y. (code_of es d, y)) (codes es ds)) (pairs_of (codes es ds))
    ∙ ap (λ zs. zs ++ pair_words two.Neq (pairs_of (codes es ds))) (each_words es s d ds a.0 a.1)
    ∙ ap (λ zs. map bit (tests differ (map (λ e. (d, e)) ds)) ++ zs) (pairs_words es s ds a.1)
    ∙ sym (map_append bit (tests differ (map (λ e. (d, e)) ds)) (tests differ (pairs_of ds)))
    ∙ ap (map bit) (sym (map_append (λ (x : Datum × Datum). differ x.0 x.1) (map (λ e. (d, e)) ds) (pairs_of ds)))

not_or : (a b : Bool) → (not a && not b) ≡ not (a || b)
not_or true b = refl
not_or false b = refl

none_same : (d : Datum) (ds : List Datum) → list_all (λ b. b) (tests differ (map (λ e. (d, e)) ds)) ≡ not (list_any (same d) ds)
none_same d [] = refl
none_same d (e ∷ ds) = ap (λ b. differ d e && b) (none_same d ds) ∙ not_or (same d e) (list_any (same d) ds)

all_pairs : (ds : List Datum) → list_all (λ b. b) (tests differ (pairs_of ds)) ≡ all_differ ds
all_pairs [] = refl
all_pairs (d ∷ ds) =
    ap (list_all (λ b. b)) (map_append (λ (x : Datum × Datum). differ x.0 x.1) (map (λ e. (d, e)) ds) (pairs_of ds))
    ∙ list_all-append (λ b. b) (tests differ (map (λ e. (d, e)) ds)) (tests differ (pairs_of ds))
    ∙ ap (λ b. b && list_all (λ b. b) (tests differ (pairs_of ds))) (none_same d ds)
    ∙ ap (λ b. not (list_any (same d) ds) && b) (all_pairs ds)

pub distinct_words : (es : List Enumeration) (s : Sort) (ds : List Datum) → 2 ≤ length ds → AllOf es s ds → fold_all two.And (pair_words two.Neq (pairs_of (codes es ds))) ≡ bit (all_differ ds)
distinct_words es s [] l a = absurd (omega (arith, l))
distinct_words es s (d ∷ []) l a = absurd (omega (arith, l))
distinct_words es s (d ∷ e ∷ ds) l a =
    ap (fold_all two.And) (pairs_words es s (d ∷ e ∷ ds) a) ∙ fold_bits (tests differ (pairs_of (d ∷ e ∷ ds))) (omega arith) ∙ ap bit (all_pairs (d ∷ e ∷ ds))

-- ---- words

pub folded_codes : (es : List Enumeration) (b : Binary) (w : ℕ) (x : BitVector) (ds : List Datum) → AllOf es (Bits w) ds → fold_words b x (codes es ds) ≡ folded b x ds
folded_codes es b w x [] a = refl
folded_codes es b w x (d ∷ ds) a =
    ap (λ z. fold_words b (binary_of b x z) (codes es ds)) (code_bits es w d a.0) ∙ folded_codes es b w (binary_of b x (word_of d)) ds a.1

bit_back : (b : Bool) → bit b ≡ bit (eqb (bit_of b) 1)
bit_back true = refl
bit_back false = refl

pub comparison_bit : (b : Binary) (x y : BitVector) → is_comparison b ≡ true → binary_of b x y ≡ bit (eqb (binary_of b x y).bits 1)
comparison_bit two.Ult x y h = bit_back _
comparison_bit two.Ulte x y h = bit_back _
comparison_bit two.Ugt x y h = bit_back _
comparison_bit two.Ugte x y h = bit_back _
comparison_bit two.Slt x y h = bit_back _
comparison_bit two.Slte x y h = bit_back _
comparison_bit two.Sgt x y h = bit_back _
comparison_bit two.Sgte x y h = bit_back _
comparison_bit b x y h = absurd (cc)

pub ite_code : (es : List Enumeration) (b : Bool) (d e : Datum) → ite_of (bit b) (code_of es d) (code_of es e) ≡ code_of es (cond b d e)
ite_code es true d e = refl
ite_code es false d e = refl

pub uext_none : (x : BitVector) → x ≡ uext_of x 0
uext_none x = let e : x.width ≡ x.width + 0 = omega arith in ap (λ w. let y : BitVector = record { width = w; bits = x.bits } in y) e

pub sext_none : (x : BitVector) → x ≡ sext_of x 0
sext_none x = uext_none x ∙ ap (λ n. let y : BitVector = record { width = x.width + 0; bits = n } in y) (go (is_minus x.width x.bits))
  where
    go : (b : Bool) → x.bits ≡ cond b (x.bits + (2 ^ (x.width + 0) - 2 ^ x.width)) x.bits
    go true = let e : x.width + 0 ≡ x.width = omega arith in let f : 2 ^ (x.width + 0) ≡ 2 ^ x.width = ap (λ w. 2 ^ w) e in omega (arith, f)
    go false = refl
