-- What an operator gives lies in its type, where the operands lie in theirs and fit.
use Rattle.std.proofs.Common.{◌≡◌, ℕ, ◌+◌, ◌-◌, ◌/◌, ◌%◌, ◌^◌, ◌<◌, ◌≤◌, Bool, true, false, ◌&&◌, ◌||◌, ◌==◌, nat_lt, nat_le, if◌then◌else◌, ℤ, pos, neg_ℤ, nat_abs, ◌+ℤ◌, ◌-ℤ◌, ◌*ℤ◌, ◌≤ℤ◌, int_lt, int_div, List, [], ◌∷◌, length, Option, Some, None, refl, sym, ap, ◌∙◌, subst, arith}
use Rattle.std.proofs.lemmas.Int.{ints, clamps}
use Rattle.std.proofs.lemmas.Bool.{eqb-true, eq-eqb, leb-true, le-leb, ltb-true, lt-ltb, ltb-false}
use mathlib.Core.Logic.{◌⊎◌, ⊎_elim}
use Rattle.std.proofs.Common.{lit≤, lit<}
use Rattle.std.proofs.Math.Nat.{mod-lt}
use Rattle.std.proofs.Math.Pow.{pow_pos}
use Rattle.std.specs.Int.{int_min, int_max}
use Rattle.std.specs.List.{list_all}
use Rattle.word_core.specs.Words.{BitVector, IsWord}
use Rattle.word_core.specs.Table.{bit_of, BinaryFits, binary_of, binary_width, slice_of, uext_of}
use Rattle.word_core.specs.declared.word.TheConstants.{WIDEST}
use Rattle.word_core.specs.declared.kinds.Unary.TheVariants as OnWord
use Rattle.word_core.specs.declared.kinds.Binary.{Binary}
use Rattle.word_core.specs.declared.kinds.Binary.TheVariants as OnWords
use Rattle.word_core.specs.laws.Rows.{unary_is_word, binary_is_word, uext_is_word}
use Rattle.smv_text.specs.declared.operators.Prefix.{Prefix}
use Rattle.smv_text.specs.declared.operators.Prefix.TheVariants as OfPrefix
use Rattle.smv_text.specs.declared.operators.Infix.{Infix}
use Rattle.smv_text.specs.declared.operators.Infix.TheVariants.{Implies, Union, ShiftLeft, ShiftRight, Plus, Minus, Times, Divide, Mod, Concat}
use Rattle.smv_text.specs.declared.operators.Function.{Function}
use Rattle.smv_text.specs.declared.operators.Function.TheVariants as OfFunction
use Rattle.smv_text.specs.Tree.{Tree}
use Rattle.smv_meaning.specs.declared.value.Value.{Value}
use Rattle.smv_meaning.specs.declared.value.Value.TheVariants.{Truth, Integer, Bits}
use Rattle.smv_meaning.specs.Values.{no_value, is_true}
use Rattle.smv_meaning.specs.Operators.{Operands, truths, integers, words, mixed, operands_of, compared_of, word, words_by, words_compared, logical, compared, calculated, shifted, concatenated, negation, minus, implied, int_mod, applied, signed, selected, resized, int_abs, is_width, called, trues}
use Rattle.smv_meaning.specs.Types.{ExprType, truth_type, integer_type, symbol_type, word_type, is_integer_type, is_word_type, type_width, type_same, hull, over_ends, over_both_ends, abs_type, quotient_type, rest_type, divisor_of, number_of, logical_fits, number_fits, infix_fits, infix_type, divides, shifts, joins, prefix_fits, prefix_type, is_select, is_divisor, is_shift_amount, is_union, function_fits, arguments_fit, function_type, second_number, first_type, are_same, hull_with, hull_of}
use Rattle.smv_meaning.specs.Typed.{LiesIn}
use Rattle.smv_meaning.specs.laws.Booleans.{both_true, two_true}
use Rattle.smv_meaning.specs.laws.WordLemmas.{below_power}
use Rattle.smv_laws.proofs.Intervals.{Steady, sum_left, sum_right, difference_left, difference_right, product_left, product_right, minus_steady, quotient_steady, rest_low_holds, rest_high_holds, one_part, abs_parts, max_left, max_right, min_left, min_right}

-- ---- words

same_width : (n : ℕ) (v w : BitVector) → v.width ≡ n → w.width ≡ n → (v.width == w.width) ≡ true
same_width n v w a b = eq-eqb v.width w.width (a ∙ sym b)

picked : (P : Value → Type 0) (t : Bool) (v w : Value) → t ≡ true → P v → P (if t then v else w)
picked P true v w e h = h
picked P false v w e h = cc

-- an operator on words of one width
abbrev pub IsEven : Binary → Type 0
IsEven op = (m n : ℕ) → m ≡ n → BinaryFits op m n × (binary_width op m n ≡ m)

pub words_lie : (op : Binary) → IsEven op → (n : ℕ) (v w : BitVector) → LiesIn (word_type n) (Bits v) → LiesIn (word_type n) (Bits w)
    → LiesIn (word_type n) (words_by op v w)
words_lie op even n v w h k =
    let e = even v.width w.width (h.0 ∙ sym k.0) in
    picked (LiesIn (word_type n)) (v.width == w.width) (Bits (binary_of op v w)) no_value (same_width n v w h.0 k.0)
    (e.1 ∙ h.0, binary_is_word op v w h.1 k.1 e.0)

pub comparison_lies : (op : Binary) (v w : BitVector) → LiesIn truth_type (words_compared op v w)
comparison_lies op v w = by (v.width == w.width) _
  where
    by : (t c : Bool) → LiesIn truth_type (if t then Truth c else no_value)
    by true c = tt
    by false c = tt

-- ---- operators on two values

pub logical_lies : (f : Bool → Bool → Bool) (op : Binary) → IsEven op → (t u : ExprType) (v w : Value) → logical_fits t u ≡ true
    → LiesIn t v → LiesIn u w → LiesIn t (logical f op v w)
logical_lies f op even truth_type truth_type (Truth a) (Truth b) fits h k = tt
logical_lies f op even truth_type truth_type (Truth a) w fits h k = absurd k
logical_lies f op even truth_type truth_type v w fits h k = absurd h
logical_lies f op even truth_type u v w fits h k = cc
logical_lies f op even (word_type m) (word_type n) (Bits a) (Bits b) fits h k =
    words_lie op even m a b h (k.0 ∙ sym (eqb-true m n fits), k.1)
logical_lies f op even (word_type m) (word_type n) (Bits a) w fits h k = absurd k
logical_lies f op even (word_type m) (word_type n) v w fits h k = absurd h
logical_lies f op even (word_type m) u v w fits h k = cc
logical_lies f op even t u v w fits h k = cc

pub negation_lies : (t : ExprType) (v : Value) → prefix_fits OfPrefix.Not t ≡ true → LiesIn t v → LiesIn t (negation v)
negation_lies truth_type (Truth b) fits h = tt
negation_lies truth_type v fits h = absurd h
negation_lies (word_type n) (Bits w) fits h = (h.0, unary_is_word OnWord.Not w h.1)
negation_lies (word_type n) v fits h = absurd h
negation_lies t v fits h = cc

pub compared_lies : (f : ℤ → ℤ → Bool) (op : Binary) (v w : Value) → LiesIn truth_type (compared f op v w)
compared_lies f op v w = by (operands_of v w)
  where
    by : (o : Operands) → LiesIn truth_type (compared_of f op o)
    by (integers a b) = tt
    by (words x y) = comparison_lies op x y
    by (truths a b) = tt
    by mixed = tt

hull_holds : (f : ℤ → ℤ → ℤ) → ((y : ℤ) → Steady (λ x. f x y)) → ((x : ℤ) → Steady (f x)) → (low high less more a b : ℤ)
    → low ≤ℤ a → a ≤ℤ high → less ≤ℤ b → b ≤ℤ more
    → LiesIn (over_both_ends f (integer_type low high) (integer_type less more)) (Integer (f a b))
hull_holds f left right low high less more a b p q r s =
    let x = left b low high a p q in
    let y = right low less more b r s in
    let z = right high less more b r s in
    (omega (arith, ints, clamps, x.0, y.0, z.0), omega (arith, ints, clamps, x.1, y.1, z.1))

pub calculated_lies : (f : ℤ → ℤ → ℤ) → ((y : ℤ) → Steady (λ x. f x y)) → ((x : ℤ) → Steady (f x)) → (op : Binary) → IsEven op → (t u : ExprType) (v w : Value)
    → number_fits t u ≡ true → LiesIn t v → LiesIn u w → LiesIn (over_both_ends f t u) (calculated f op v w)
calculated_lies f left right op even (integer_type low high) (integer_type less more) (Integer a) (Integer b) fits h k =
    hull_holds f left right low high less more a b h.0 h.1 k.0 k.1
calculated_lies f left right op even (integer_type low high) (integer_type less more) (Integer a) w fits h k = absurd k
calculated_lies f left right op even (integer_type low high) (integer_type less more) v w fits h k = absurd h
calculated_lies f left right op even (integer_type low high) u v w fits h k = cc
calculated_lies f left right op even (word_type m) (word_type n) (Bits a) (Bits b) fits h k =
    words_lie op even m a b h (k.0 ∙ sym (eqb-true m n fits), k.1)
calculated_lies f left right op even (word_type m) (word_type n) (Bits a) w fits h k = absurd k
calculated_lies f left right op even (word_type m) (word_type n) v w fits h k = absurd h
calculated_lies f left right op even (word_type m) u v w fits h k = cc
calculated_lies f left right op even t u v w fits h k = cc

-- ---- divisors, shifts, concatenation

-- the value of a divisor's text
abbrev pub DivisorIs : Option ℤ → Value → Type 0
DivisorIs (Some b) w = (w ≡ Integer b) × ((nat_abs b == 0) ≡ false)
DivisorIs None w = (x : BitVector) × (w ≡ Bits x)

abbrev int_in : Value → ℤ
int_in (Integer z) = z
int_in v = pos 0

integers_differ : (b : ℤ) (x : BitVector) → Integer b ≡ Bits x → ⊥
integers_differ b x e = cc

words_differ : (b : ℤ) (x : BitVector) → Bits x ≡ Integer b → ⊥
words_differ b x e = cc

pub quotient_lies : (o : Option ℤ) (t u : ExprType) (v w : Value) → number_fits t u ≡ true → DivisorIs o w → LiesIn t v → LiesIn u w
    → LiesIn (quotient_type t o) (calculated int_div OnWords.Udiv v w)
quotient_lies (Some b) (integer_type low high) (integer_type less more) (Integer a) (Integer c) fits d h k =
    subst (λ y. LiesIn (over_ends (λ x. int_div x b) (integer_type low high)) (Integer (int_div a y))) (sym (ap int_in d.0)) (quotient_steady b low high a h.0 h.1)
quotient_lies None (integer_type low high) (integer_type less more) (Integer a) (Integer c) fits d h k = absurd (integers_differ c d.0 d.1)
quotient_lies o (integer_type low high) (integer_type less more) (Integer a) w fits d h k = absurd k
quotient_lies o (integer_type low high) (integer_type less more) v w fits d h k = absurd h
quotient_lies o (integer_type low high) u v w fits d h k = cc
quotient_lies (Some b) (word_type m) (word_type n) (Bits x) (Bits y) fits d h k = absurd (words_differ b y d.0)
quotient_lies None (word_type m) (word_type n) (Bits x) (Bits y) fits d h k =
    words_lie OnWords.Udiv (λ i j e. (e, refl)) m x y h (k.0 ∙ sym (eqb-true m n fits), k.1)
quotient_lies o (word_type m) (word_type n) (Bits a) w fits d h k = absurd k
quotient_lies o (word_type m) (word_type n) v w fits d h k = absurd h
quotient_lies o (word_type m) u v w fits d h k = cc
quotient_lies o t u v w fits d h k = cc

pub rest_lies : (o : Option ℤ) (t u : ExprType) (v w : Value) → number_fits t u ≡ true → DivisorIs o w → LiesIn t v → LiesIn u w
    → LiesIn (rest_type t o) (calculated int_mod OnWords.Urem v w)
rest_lies (Some b) (integer_type low high) (integer_type less more) (Integer a) (Integer c) fits d h k =
    subst (λ y. LiesIn (rest_type (integer_type low high) (Some b)) (Integer (int_mod a y))) (sym (ap int_in d.0))
    (rest_low_holds low a b h.0 d.1, rest_high_holds high a b h.1 d.1)
rest_lies None (integer_type low high) (integer_type less more) (Integer a) (Integer c) fits d h k = absurd (integers_differ c d.0 d.1)
rest_lies o (integer_type low high) (integer_type less more) (Integer a) w fits d h k = absurd k
rest_lies o (integer_type low high) (integer_type less more) v w fits d h k = absurd h
rest_lies o (integer_type low high) u v w fits d h k = cc
rest_lies (Some b) (word_type m) (word_type n) (Bits x) (Bits y) fits d h k = absurd (words_differ b y d.0)
rest_lies None (word_type m) (word_type n) (Bits x) (Bits y) fits d h k =
    words_lie OnWords.Urem (λ i j e. (e, refl)) m x y h (k.0 ∙ sym (eqb-true m n fits), k.1)
rest_lies o (word_type m) (word_type n) (Bits a) w fits d h k = absurd k
rest_lies o (word_type m) (word_type n) v w fits d h k = absurd h
rest_lies o (word_type m) u v w fits d h k = cc
rest_lies o t u v w fits d h k = cc

-- a number where the text is one
abbrev pub NumberIs : Option ℕ → Value → Type 0
NumberIs (Some n) w = w ≡ Integer (pos n)
NumberIs None w = Unit {0}

pub width_of : (n : ℕ) → is_width n ≡ true → (1 ≤ n) × (n ≤ WIDEST)
width_of n h = let b = both_true (nat_le 1 n) (nat_le n WIDEST) h in (leb-true 1 n b.0, leb-true n WIDEST b.1)

shift_lies : (op : Binary) → IsEven op → (o : Option ℕ) (t : ExprType) (v w : Value) → is_word_type t ≡ true → is_shift_amount o t ≡ true → NumberIs o w
    → LiesIn t v → LiesIn t (shifted op v w)
shift_lies op even (Some n) (word_type m) (Bits x) w word_fits amount is h =
    subst (λ y. LiesIn (word_type m) (shifted op (Bits x) y)) (sym is)
    (let few : n ≤ m = leb-true n m amount in
    let e = even x.width x.width refl in
    let small = below_power x.width in
    let word_n : IsWord (word x.width n) = (h.1.0, h.1.1, omega (arith, h.0, small)) in
    picked (LiesIn (word_type m)) (nat_le n x.width) (Bits (binary_of op x (word x.width n))) no_value (le-leb n x.width (omega (arith, h.0)))
    (e.1 ∙ h.0, binary_is_word op x (word x.width n) h.1 word_n e.0))
shift_lies op even None t v w word_fits amount is h = cc
shift_lies op even (Some n) (word_type m) v w word_fits amount is h = absurd h
shift_lies op even (Some n) t v w word_fits amount is h = cc

concat_lies : (t u : ExprType) (v w : Value) → (is_word_type t && is_word_type u) ≡ true → is_width (type_width t + type_width u) ≡ true → LiesIn t v → LiesIn u w
    → LiesIn (word_type (type_width t + type_width u)) (concatenated v w)
concat_lies (word_type m) (word_type n) (Bits x) (Bits y) fits wide h k =
    let most : x.width + y.width ≤ WIDEST = omega (arith, (width_of (m + n) wide).1, h.0, k.0) in
    picked (LiesIn (word_type (m + n))) (nat_le (x.width + y.width) WIDEST) (Bits (binary_of OnWords.Concat x y)) no_value (le-leb (x.width + y.width) WIDEST most)
    (omega (arith, h.0, k.0), binary_is_word OnWords.Concat x y h.1 k.1 most)
concat_lies (word_type m) (word_type n) (Bits x) w fits wide h k = absurd k
concat_lies (word_type m) (word_type n) v w fits wide h k = absurd h
concat_lies (word_type m) u v w fits wide h k = cc
concat_lies t u v w fits wide h k = cc

pub implied_lies : (t u : ExprType) (v w : Value) → logical_fits t u ≡ true → LiesIn t v → LiesIn u w → LiesIn t (implied v w)
implied_lies t u v w fits h k =
    logical_lies (λ p q. p || q) OnWords.Or (λ i j e. (e, refl)) t u (negation v) w fits (negation_lies t v (first_fits t u fits) h) k
  where
    first_fits : (t u : ExprType) → logical_fits t u ≡ true → prefix_fits OfPrefix.Not t ≡ true
    first_fits truth_type u e = refl
    first_fits (word_type n) u e = refl
    first_fits t u e = cc

-- an operator other than `union` between two values
pub infix_lies : (op : Infix) (t u : ExprType) (e : Tree) (v w : Value) → is_union op ≡ false → infix_fits op t u ≡ true → divides op e ≡ true → shifts op t e ≡ true
    → joins op t u ≡ true → (is_divisor e ≡ true → DivisorIs (divisor_of e) w) → NumberIs (number_of e) w → LiesIn t v → LiesIn u w
    → LiesIn (infix_type op t u e) (applied op v w)
infix_lies Implies t u e v w o fits d s j dw nw h k = implied_lies t u v w fits h k
infix_lies Union t u e v w o fits d s j dw nw h k = cc
infix_lies ShiftLeft t u e v w o fits d s j dw nw h k = shift_lies OnWords.Sll (λ i j e. (e, refl)) (number_of e) t v w fits s nw h
infix_lies ShiftRight t u e v w o fits d s j dw nw h k = shift_lies OnWords.Srl (λ i j e. (e, refl)) (number_of e) t v w fits s nw h
infix_lies Plus t u e v w o fits d s j dw nw h k = calculated_lies (λ x y. x +ℤ y) sum_left sum_right OnWords.Add (λ i j e. (e, refl)) t u v w fits h k
infix_lies Minus t u e v w o fits d s j dw nw h k = calculated_lies (λ x y. x -ℤ y) difference_left difference_right OnWords.Sub (λ i j e. (e, refl)) t u v w fits h k
infix_lies Times t u e v w o fits d s j dw nw h k = calculated_lies (λ x y. x *ℤ y) product_left product_right OnWords.Mul (λ i j e. (e, refl)) t u v w fits h k
infix_lies Divide t u e v w o fits d s j dw nw h k = quotient_lies (divisor_of e) t u v w fits (dw d) h k
infix_lies Mod t u e v w o fits d s j dw nw h k = rest_lies (divisor_of e) t u v w fits (dw d) h k
infix_lies Concat t u e v w o fits d s j dw nw h k = concat_lies t u v w fits j h k
infix_lies op t u e v w o fits d s j dw nw h k = search (logical_lies, compared_lies)

-- ---- signs, selections, functions

minus_lies : (t : ExprType) (v : Value) → prefix_fits OfPrefix.Minus t ≡ true → LiesIn t v → LiesIn (over_ends neg_ℤ t) (minus v)
minus_lies (integer_type low high) (Integer z) fits h = minus_steady low high z h.0 h.1
minus_lies (integer_type low high) v fits h = absurd h
minus_lies (word_type n) (Bits w) fits h = (h.0, unary_is_word OnWord.Neg w h.1)
minus_lies (word_type n) v fits h = absurd h
minus_lies t v fits h = cc

pub prefix_lies : (sign : Prefix) (n : ℕ) (t : ExprType) (v : Value) → prefix_fits sign t ≡ true → LiesIn t v → LiesIn (prefix_type sign n t) (signed sign n v)
prefix_lies OfPrefix.Not n t v fits h = by (n % 2 == 1)
  where
    by : (b : Bool) → LiesIn t (if b then negation v else v)
    by true = negation_lies t v fits h
    by false = h
prefix_lies OfPrefix.Minus n t v fits h = by (n % 2 == 1)
  where
    by : (b : Bool) → LiesIn (if b then over_ends neg_ℤ t else t) (if b then minus v else v)
    by true = minus_lies t v fits h
    by false = h

slice_is_word : (w : BitVector) (high low : ℕ) → IsWord w → low ≤ high → high < w.width → IsWord (slice_of w high low)
slice_is_word w high low h o l = (omega arith, omega (arith, h.1), mod-lt (w.bits / 2 ^ low) (pow_pos (high - low + 1)))

pub select_lies : (t : ExprType) (high low : ℕ) (v : Value) → is_word_type t ≡ true → is_select t high low ≡ true → LiesIn t v
    → LiesIn (word_type (high - low + 1)) (selected high low v)
select_lies (word_type n) high low (Bits w) fits there h =
    let b = both_true (nat_lt high n) (nat_le low high) there in
    let o = leb-true low high b.1 in
    let l : high < w.width = omega (arith, ltb-true high n b.0, h.0) in
    let test : (nat_le low high && nat_lt high w.width) ≡ true = two_true (nat_le low high) (nat_lt high w.width) b.1 (lt-ltb high w.width l) in
    picked (LiesIn (word_type (high - low + 1))) (nat_le low high && nat_lt high w.width) (Bits (slice_of w high low)) no_value test
    (refl, slice_is_word w high low h.1 o l)
select_lies (word_type n) high low v fits there h = absurd h
select_lies t high low v fits there h = cc

-- each value lies in its type
abbrev pub AllLie : List ExprType → List Value → Type 0
AllLie [] [] = Unit {0}
AllLie (t ∷ ts) (v ∷ vs) = LiesIn t v × AllLie ts vs
AllLie ts vs = ⊥

abbrev pub NumbersAre : List (Option ℕ) → List Value → Type 0
NumbersAre (o ∷ os) (v ∷ vs) = NumberIs o v × NumbersAre os vs
NumbersAre os vs = Unit {0}

trues_most : (ts : List ExprType) (vs : List Value) → AllLie ts vs → trues vs ≤ length ts
trues_most [] [] h = omega arith
trues_most [] (v ∷ vs) h = absurd h
trues_most (t ∷ ts) [] h = absurd h
trues_most (t ∷ ts) (v ∷ vs) h = by (is_true v) (trues_most ts vs h.1)
  where
    by : (b : Bool) → trues vs ≤ length ts → (if b then trues vs + 1 else trues vs) ≤ length (t ∷ ts)
    by true l = omega arith
    by false l = omega arith

abs_lies : (t : ExprType) (v : Value) → is_integer_type t ≡ true → LiesIn t v → LiesIn (abs_type t) (called OfFunction.Abs (v ∷ []))
abs_lies (integer_type low high) (Integer z) fits h = by (int_lt low (pos 0)) (int_lt (pos 0) high) refl refl
  where
    by : (a b : Bool) → int_lt low (pos 0) ≡ a → int_lt (pos 0) high ≡ b
        → LiesIn (if a && b then integer_type (pos 0) (int_max (int_abs low) (int_abs high)) else over_ends int_abs (integer_type low high)) (Integer (int_abs z))
    by true true p q = let r = h.0 in let s = h.1 in
        (omega (arith, ints, abs_parts z), omega (arith, ints, clamps, abs_parts z, abs_parts low, abs_parts high, one_part z, one_part low, one_part high))
    by true false p q = let r = h.0 in let s = h.1 in (
      omega (arith, ints, clamps, abs_parts z, abs_parts low, abs_parts high, one_part z, one_part low, one_part high),
      omega (arith, ints, clamps, abs_parts z, abs_parts low, abs_parts high, one_part z, one_part low, one_part high),
    )
    by false b p q = let r = h.0 in let s = h.1 in (
      omega (arith, ints, clamps, abs_parts z, abs_parts low, abs_parts high, one_part z, one_part low, one_part high),
      omega (arith, ints, clamps, abs_parts z, abs_parts low, abs_parts high, one_part z, one_part low, one_part high),
    )
abs_lies (integer_type low high) v fits h = absurd h
abs_lies t v fits h = cc

uwconst_lies : (ts : List ExprType) (ns : List (Option ℕ)) (vs : List Value) → function_fits OfFunction.Uwconst ts ≡ true → arguments_fit OfFunction.Uwconst ts ns ≡ true → AllLie ts vs → NumbersAre ns vs
    → LiesIn (word_type (second_number ns)) (called OfFunction.Uwconst vs)
uwconst_lies (t ∷ u ∷ []) (Some m ∷ Some n ∷ []) (v ∷ w ∷ []) fits numbers h is =
    subst (λ x. LiesIn (word_type n) (called OfFunction.Uwconst (x ∷ w ∷ []))) (sym is.0)
    (subst (λ x. LiesIn (word_type n) (called OfFunction.Uwconst (Integer (pos m) ∷ x ∷ []))) (sym is.1.0)
    (let b = both_true (is_width n) (nat_lt m (2 ^ n)) numbers in
    let d = width_of n b.0 in
    picked (LiesIn (word_type n)) (is_width n && nat_lt m (2 ^ n)) (Bits (word n m)) no_value numbers (refl, (d.0, d.1, ltb-true m (2 ^ n) b.1))))
uwconst_lies (t ∷ u ∷ []) (Some m ∷ Some n ∷ []) [] fits numbers h is = absurd h
uwconst_lies (t ∷ u ∷ []) (Some m ∷ Some n ∷ []) (v ∷ []) fits numbers h is = absurd h.1
uwconst_lies (t ∷ u ∷ []) (Some m ∷ Some n ∷ []) (v ∷ w ∷ x ∷ vs) fits numbers h is = absurd h.1.1
uwconst_lies [] ns vs fits numbers h is = cc
uwconst_lies (t ∷ []) ns vs fits numbers h is = cc
uwconst_lies (t ∷ u ∷ s ∷ ts) ns vs fits numbers h is = cc
uwconst_lies (t ∷ u ∷ []) ns vs fits numbers h is = cc

extend_lies : (ts : List ExprType) (ns : List (Option ℕ)) (vs : List Value) → function_fits OfFunction.Extend ts ≡ true → arguments_fit OfFunction.Extend ts ns ≡ true → AllLie ts vs → NumbersAre ns vs
    → LiesIn (word_type (type_width (first_type ts) + second_number ns)) (called OfFunction.Extend vs)
extend_lies (word_type m ∷ u ∷ []) (o ∷ Some n ∷ []) (Bits x ∷ w ∷ []) fits numbers h is =
    subst (λ y. LiesIn (word_type (m + n)) (called OfFunction.Extend (Bits x ∷ y ∷ []))) (sym is.1.0)
    (let a = h.0.0 in
    let most : x.width + n ≤ WIDEST = omega (arith, (width_of (m + n) numbers).1, a) in
    picked (LiesIn (word_type (m + n))) (nat_le (x.width + n) WIDEST) (Bits (uext_of x n)) no_value (le-leb (x.width + n) WIDEST most)
    (omega (arith, a), uext_is_word x n h.0.1 most))
extend_lies (word_type m ∷ u ∷ []) (o ∷ Some n ∷ []) [] fits numbers h is = absurd h
extend_lies (word_type m ∷ u ∷ []) (o ∷ Some n ∷ []) (v ∷ []) fits numbers h is = absurd h.1
extend_lies (word_type m ∷ u ∷ []) (o ∷ Some n ∷ []) (v ∷ w ∷ x ∷ vs) fits numbers h is = absurd h.1.1
extend_lies (word_type m ∷ u ∷ []) (o ∷ Some n ∷ []) (v ∷ w ∷ []) fits numbers h is = absurd h.0
extend_lies [] ns vs fits numbers h is = cc
extend_lies (t ∷ []) ns vs fits numbers h is = cc
extend_lies (t ∷ u ∷ s ∷ ts) ns vs fits numbers h is = cc
extend_lies (word_type m ∷ u ∷ []) ns vs fits numbers h is = cc
extend_lies (t ∷ u ∷ []) ns vs fits numbers h is = cc

resized_is_word : (w : BitVector) (n : ℕ) → IsWord w → (1 ≤ n) × (n ≤ WIDEST) → IsWord (resized w n) × ((resized w n).width ≡ n)
resized_is_word w n h d = by (nat_lt n w.width) refl
  where
    by : (b : Bool) → nat_lt n w.width ≡ b
        → IsWord (if b then slice_of w (n - 1) 0 else uext_of w (n - w.width)) × ((if b then slice_of w (n - 1) 0 else uext_of w (n - w.width)).width ≡ n)
    by true e = let l = ltb-true n w.width e in let a = d.0 in (slice_is_word w (n - 1) 0 h (omega arith) (omega arith), omega arith)
    by false e = let l = ltb-false n w.width e in let a = d.1 in (uext_is_word w (n - w.width) h (omega (arith, h.1)), omega arith)

resize_lies : (ts : List ExprType) (ns : List (Option ℕ)) (vs : List Value) → function_fits OfFunction.Resize ts ≡ true → arguments_fit OfFunction.Resize ts ns ≡ true → AllLie ts vs → NumbersAre ns vs
    → LiesIn (word_type (second_number ns)) (called OfFunction.Resize vs)
resize_lies (word_type m ∷ u ∷ []) (o ∷ Some n ∷ []) (Bits x ∷ w ∷ []) fits numbers h is =
    subst (λ y. LiesIn (word_type n) (called OfFunction.Resize (Bits x ∷ y ∷ []))) (sym is.1.0)
    (let r = resized_is_word x n h.0.1 (width_of n numbers) in
    picked (LiesIn (word_type n)) (is_width n) (Bits (resized x n)) no_value numbers (r.1, r.0))
resize_lies (word_type m ∷ u ∷ []) (o ∷ Some n ∷ []) [] fits numbers h is = absurd h
resize_lies (word_type m ∷ u ∷ []) (o ∷ Some n ∷ []) (v ∷ []) fits numbers h is = absurd h.1
resize_lies (word_type m ∷ u ∷ []) (o ∷ Some n ∷ []) (v ∷ w ∷ x ∷ vs) fits numbers h is = absurd h.1.1
resize_lies (word_type m ∷ u ∷ []) (o ∷ Some n ∷ []) (v ∷ w ∷ []) fits numbers h is = absurd h.0
resize_lies [] ns vs fits numbers h is = cc
resize_lies (t ∷ []) ns vs fits numbers h is = cc
resize_lies (t ∷ u ∷ s ∷ ts) ns vs fits numbers h is = cc
resize_lies (word_type m ∷ u ∷ []) ns vs fits numbers h is = cc
resize_lies (t ∷ u ∷ []) ns vs fits numbers h is = cc

bool_lies : (vs : List Value) → LiesIn truth_type (called OfFunction.Bool vs)
bool_lies [] = tt
bool_lies (Bits w ∷ []) = tt
bool_lies (v ∷ []) = tt
bool_lies (Bits v ∷ w ∷ vs) = tt
bool_lies (v ∷ w ∷ vs) = tt

word1_lies : (ts : List ExprType) (vs : List Value) → function_fits OfFunction.Word1 ts ≡ true → AllLie ts vs → LiesIn (word_type 1) (called OfFunction.Word1 vs)
word1_lies (truth_type ∷ []) (Truth b ∷ []) fits h = (refl, (lit≤ tt, lit≤ tt, bit_small b))
  where
    bit_small : (b : Bool) → bit_of b < 2 ^ 1
    bit_small true = lit< tt
    bit_small false = lit< tt
word1_lies (truth_type ∷ []) [] fits h = absurd h
word1_lies (truth_type ∷ []) (v ∷ w ∷ vs) fits h = absurd h.1
word1_lies (truth_type ∷ []) (v ∷ []) fits h = absurd h.0
word1_lies [] vs fits h = cc
word1_lies (t ∷ u ∷ ts) vs fits h = cc
word1_lies (t ∷ []) vs fits h = cc

toint_lies : (ts : List ExprType) (ns : List (Option ℕ)) (vs : List Value) → function_fits OfFunction.Toint ts ≡ true → AllLie ts vs
    → LiesIn (function_type OfFunction.Toint ts ns) (called OfFunction.Toint vs)
toint_lies (word_type m ∷ []) ns (Bits w ∷ []) fits h =
    let small : w.bits < 2 ^ m = subst (λ n. w.bits < 2 ^ n) h.0.0 h.0.1.2 in (omega (arith, ints), omega (arith, ints))
toint_lies (word_type m ∷ []) ns [] fits h = absurd h
toint_lies (word_type m ∷ []) ns (v ∷ w ∷ vs) fits h = absurd h.1
toint_lies (word_type m ∷ []) ns (v ∷ []) fits h = absurd h.0
toint_lies [] ns vs fits h = cc
toint_lies (t ∷ u ∷ ts) ns vs fits h = cc
toint_lies (t ∷ []) ns vs fits h = cc

max_lies : (ts : List ExprType) (ns : List (Option ℕ)) (vs : List Value) → function_fits OfFunction.Max ts ≡ true → AllLie ts vs
    → LiesIn (function_type OfFunction.Max ts ns) (called OfFunction.Max vs)
max_lies (integer_type low high ∷ integer_type less more ∷ []) ns (Integer a ∷ Integer b ∷ []) fits h =
    hull_holds int_max max_left max_right low high less more a b h.0.0 h.0.1 h.1.0.0 h.1.0.1
max_lies (integer_type low high ∷ integer_type less more ∷ []) ns [] fits h = absurd h
max_lies (integer_type low high ∷ integer_type less more ∷ []) ns (v ∷ []) fits h = absurd h.1
max_lies (integer_type low high ∷ integer_type less more ∷ []) ns (v ∷ w ∷ x ∷ vs) fits h = absurd h.1.1
max_lies (integer_type low high ∷ integer_type less more ∷ []) ns (Integer a ∷ w ∷ []) fits h = absurd h.1.0
max_lies (integer_type low high ∷ integer_type less more ∷ []) ns (v ∷ w ∷ []) fits h = absurd h.0
max_lies [] ns vs fits h = cc
max_lies (t ∷ []) ns vs fits h = cc
max_lies (t ∷ u ∷ s ∷ ts) ns vs fits h = cc
max_lies (integer_type low high ∷ u ∷ []) ns vs fits h = cc
max_lies (t ∷ u ∷ []) ns vs fits h = cc

min_lies : (ts : List ExprType) (ns : List (Option ℕ)) (vs : List Value) → function_fits OfFunction.Min ts ≡ true → AllLie ts vs
    → LiesIn (function_type OfFunction.Min ts ns) (called OfFunction.Min vs)
min_lies (integer_type low high ∷ integer_type less more ∷ []) ns (Integer a ∷ Integer b ∷ []) fits h =
    hull_holds int_min min_left min_right low high less more a b h.0.0 h.0.1 h.1.0.0 h.1.0.1
min_lies (integer_type low high ∷ integer_type less more ∷ []) ns [] fits h = absurd h
min_lies (integer_type low high ∷ integer_type less more ∷ []) ns (v ∷ []) fits h = absurd h.1
min_lies (integer_type low high ∷ integer_type less more ∷ []) ns (v ∷ w ∷ x ∷ vs) fits h = absurd h.1.1
min_lies (integer_type low high ∷ integer_type less more ∷ []) ns (Integer a ∷ w ∷ []) fits h = absurd h.1.0
min_lies (integer_type low high ∷ integer_type less more ∷ []) ns (v ∷ w ∷ []) fits h = absurd h.0
min_lies [] ns vs fits h = cc
min_lies (t ∷ []) ns vs fits h = cc
min_lies (t ∷ u ∷ s ∷ ts) ns vs fits h = cc
min_lies (integer_type low high ∷ u ∷ []) ns vs fits h = cc
min_lies (t ∷ u ∷ []) ns vs fits h = cc

abs_all_lies : (ts : List ExprType) (ns : List (Option ℕ)) (vs : List Value) → function_fits OfFunction.Abs ts ≡ true → AllLie ts vs
    → LiesIn (function_type OfFunction.Abs ts ns) (called OfFunction.Abs vs)
abs_all_lies (t ∷ []) ns (v ∷ []) fits h = abs_lies t v fits h.0
abs_all_lies (t ∷ []) ns [] fits h = absurd h
abs_all_lies (t ∷ []) ns (v ∷ w ∷ vs) fits h = absurd h.1
abs_all_lies [] ns vs fits h = cc
abs_all_lies (t ∷ u ∷ ts) ns vs fits h = cc

count_lies : (ts : List ExprType) (ns : List (Option ℕ)) (vs : List Value) → AllLie ts vs → LiesIn (function_type OfFunction.Count ts ns) (called OfFunction.Count vs)
count_lies ts ns vs h = let most = trues_most ts vs h in (omega (arith, ints), omega (arith, ints))

pub called_lies : (f : Function) (ts : List ExprType) (ns : List (Option ℕ)) (vs : List Value) → function_fits f ts ≡ true → arguments_fit f ts ns ≡ true → AllLie ts vs → NumbersAre ns vs
    → LiesIn (function_type f ts ns) (called f vs)
called_lies OfFunction.Bool ts ns vs fits numbers h is = bool_lies vs
called_lies OfFunction.Word1 ts ns vs fits numbers h is = word1_lies ts vs fits h
called_lies OfFunction.Toint ts ns vs fits numbers h is = toint_lies ts ns vs fits h
called_lies OfFunction.Uwconst ts ns vs fits numbers h is = uwconst_lies ts ns vs fits numbers h is
called_lies OfFunction.Extend ts ns vs fits numbers h is = extend_lies ts ns vs fits numbers h is
called_lies OfFunction.Resize ts ns vs fits numbers h is = resize_lies ts ns vs fits numbers h is
called_lies OfFunction.Count ts ns vs fits numbers h is = count_lies ts ns vs h
called_lies OfFunction.Max ts ns vs fits numbers h is = max_lies ts ns vs fits h
called_lies OfFunction.Min ts ns vs fits numbers h is = min_lies ts ns vs fits h
called_lies OfFunction.Abs ts ns vs fits numbers h is = abs_all_lies ts ns vs fits h

-- ---- hulls

pub hull_left : (t u : ExprType) (v : Value) → LiesIn t v → LiesIn (hull t u) v
hull_left (integer_type low high) (integer_type less more) (Integer z) h = let a = h.0 in let b = h.1 in (omega (arith, ints, clamps), omega (arith, ints, clamps))
hull_left (integer_type low high) (integer_type less more) v h = absurd h
hull_left t u v h = h

pub hull_right : (t u : ExprType) (v : Value) → type_same t u ≡ true → LiesIn u v → LiesIn (hull t u) v
hull_right truth_type truth_type v e h = h
hull_right truth_type u v e h = cc
hull_right (integer_type low high) (integer_type less more) (Integer z) e h = let a = h.0 in let b = h.1 in (omega (arith, ints, clamps), omega (arith, ints, clamps))
hull_right (integer_type low high) (integer_type less more) v e h = absurd h
hull_right (integer_type low high) u v e h = cc
hull_right symbol_type symbol_type v e h = h
hull_right symbol_type u v e h = cc
hull_right (word_type m) (word_type n) v e h = subst (λ i. LiesIn (word_type i) v) (sym (eqb-true m n e)) h
hull_right (word_type m) u v e h = cc

hull_same : (t u s : ExprType) → type_same t s ≡ true → type_same (hull t u) s ≡ true
hull_same (integer_type low high) (integer_type less more) (integer_type a b) e = refl
hull_same (integer_type low high) (integer_type less more) s e = e
hull_same t u s e = e

-- what lies in the first of types that are alike, or in one of the rest, lies in their hull
pub stays : (t : ExprType) (us : List ExprType) (v : Value) → LiesIn t v → LiesIn (hull_with t us) v
stays t [] v h = h
stays t (u ∷ us) v h = stays (hull t u) us v (hull_left t u v h)

-- a value lies in one of the types
abbrev pub LiesInOne : List ExprType → Value → Type 0
LiesInOne [] v = ⊥
LiesInOne (t ∷ ts) v = LiesIn t v ⊎ LiesInOne ts v

later_stays : (t : ExprType) (us : List ExprType) (v : Value) → list_all (type_same t) us ≡ true → LiesInOne us v → LiesIn (hull_with t us) v
later_stays t [] v e h = absurd h
later_stays t (u ∷ us) v e h =
    let b = both_true (type_same t u) (list_all (type_same t) us) e in
    ⊎_elim (λ l. stays (hull t u) us v (hull_right t u v b.0 l)) (λ l. later_stays (hull t u) us v (hull_all t u us b.1) l) h
  where
    hull_all : (t u : ExprType) (us : List ExprType) → list_all (type_same t) us ≡ true → list_all (type_same (hull t u)) us ≡ true
    hull_all t u [] e = refl
    hull_all t u (s ∷ us) e =
        let b = both_true (type_same t s) (list_all (type_same t) us) e in
        two_true (type_same (hull t u) s) (list_all (type_same (hull t u)) us) (hull_same t u s b.0) (hull_all t u us b.1)

pub hull_of_holds : (ts : List ExprType) (v : Value) → are_same ts ≡ true → LiesInOne ts v → LiesIn (hull_of ts) v
hull_of_holds [] v e h = absurd h
hull_of_holds (t ∷ ts) v e h = ⊎_elim (λ l. stays t ts v l) (λ l. later_stays t ts v e l) h
