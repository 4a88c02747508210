-- An operator gives a value of the sort that its application has, and its arguments have the widths that its row asks for.
use Rattle.std.proofs.Common.{◌≡◌, ℕ, suc, ◌+◌, ◌-◌, ◌^◌, ◌/◌, ◌<◌, ◌≤◌, Bool, true, false, cond, ◌&&◌, nat_le, nat_lt, eqb, List, [], ◌∷◌, length, Some, Result, Ok, Err, refl, sym, ap, ◌∙◌, subst, arith}
use Rattle.std.proofs.lemmas.Bool.{and_parts}
use Rattle.std.proofs.lemmas.Bool.Decides.{nat_tests}
use Rattle.std.proofs.Math.Nat.{one-le-pow, mod-lt}
use Rattle.text_core.specs.declared.place.Kind.{Kind}
use Rattle.text_core.specs.declared.place.Kind.TheVariants.{M}
use Rattle.word_core.specs.Words.{BitVector, IsWord}
use Rattle.word_core.specs.Table.{unary_of, binary_of, slice_of, uext_of, sext_of, is_minus}
use Rattle.word_core.specs.declared.word.TheConstants.{WIDEST}
use Rattle.word_core.specs.declared.kinds.Unary.{Unary}
use Rattle.word_core.specs.declared.kinds.Unary.TheVariants as one
use Rattle.word_core.specs.declared.kinds.Binary.{Binary}
use Rattle.word_core.specs.declared.kinds.Binary.TheVariants as two
use Rattle.word_core.specs.laws.Rows.{unary_is_word, binary_is_word, uext_is_word, sext_is_word}
use Rattle.moxi_terms.specs.declared.data.Sort.{Sort}
use Rattle.moxi_terms.specs.declared.data.Sort.TheVariants.{Truth, Bits}
use Rattle.moxi_terms.specs.declared.data.Datum.{Datum}
use Rattle.moxi_terms.specs.declared.data.Datum.TheVariants as datum
use Rattle.moxi_terms.specs.declared.data.TermOp.{TermOp}
use Rattle.moxi_terms.specs.declared.data.TermOp.TheVariants as op
use Rattle.moxi_terms.specs.declared.term.Enumeration.{Enumeration}
use Rattle.moxi_terms.specs.Operators.{truth_of, word_of, op_value, on_words, folded}
use Rattle.moxi_terms.specs.Sorts.{IsOf, Fit, common, is_chain, is_negation, count_fits, fitting, op_sort}
use Rattle.moxi_terms.specs.Applied.{AreWide, CanApply, IsBits}
use Rattle.moxi_terms.proofs.SortLaws.{taken, same_ok, AllOf, common_one, fit_all, fit_long, fit_one, fit_two, fit_three, bits_are, truths, logical_truth, compared_truth, chosen_is, folded_word, folded_wide, compared_wide, comparison_count, Calculated, comparison, arithmetic, calculated_is, widened_is}

chosen_of : (es : List Enumeration) (s : Sort) (c : Bool) (a b : Datum) → IsOf es s a → IsOf es s b → IsOf es s (cond c a b)
chosen_of es s true a b x y = x
chosen_of es s false a b x y = y

pub slice_is_word : (a : BitVector) (high low : ℕ) → IsWord a → low ≤ high → high < a.width → IsWord (slice_of a high low)
slice_is_word a high low w le lt =
    let wide : a.width ≤ WIDEST = w.1 in
    (omega arith, omega (arith, wide), mod-lt (a.bits / 2 ^ low) (one-le-pow (high - low + 1) 2 (omega arith)))

pub sext_of_is_word : (a : BitVector) (n : ℕ) → IsWord a → a.width + n ≤ WIDEST → IsWord (sext_of a n)
sext_of_is_word a n w le = go (is_minus a.width a.bits)
  where
    go : (b : Bool) → IsWord (record { width = a.width + n; bits = cond b (a.bits + (2 ^ (a.width + n) - 2 ^ a.width)) a.bits })
    go true = sext_is_word a n w le
    go false = uext_is_word a n w le

-- an index and a width that fit
pub extracted : (high low w : ℕ) (s : Sort) → cond {A = Result Sort Kind} (nat_le low high && nat_lt high w) (Ok (Bits (high - low + 1))) (Err (M 8)) ≡ Ok s → (low ≤ high) × (high < w) × (s ≡ Bits (high - low + 1))
extracted high low w s h =
    let p = taken (nat_le low high && nat_lt high w) (Ok (Bits (high - low + 1))) (M 8) s h in
    let q = and_parts (nat_le low high) (nat_lt high w) p.0 in
    (grind (arith, nat_tests, q.0), grind (arith, nat_tests, q.1), sym (same_ok (Bits (high - low + 1)) s p.1))

bits_of : (es : List Enumeration) (s : Sort) (w : ℕ) (x : BitVector) → s ≡ Bits w → x.width ≡ w → IsWord x → IsOf es s (datum.Bits x)
bits_of es s w x e f i = subst (λ s. IsOf es s (datum.Bits x)) (sym e) (f, i)

negation_width : (u : Unary) (w : ℕ) (s : Sort) → cond {A = Result Sort Kind} (is_negation u) (Ok (Bits w)) (Err (M 5)) ≡ Ok s → (s ≡ Bits w) × (is_negation u ≡ true)
negation_width u w s h = let p = taken (is_negation u) (Ok (Bits w)) (M 5) s h in (sym (same_ok (Bits w) s p.1), p.0)

negated_width : (u : Unary) (a : BitVector) → is_negation u ≡ true → (unary_of u a).width ≡ a.width
negated_width one.Not a h = refl
negated_width one.Neg a h = refl
negated_width u a h = absurd (cc)

-- the words of an operator on words
words_sorted : (es : List Enumeration) (b : Binary) (w : ℕ) (s : Sort) (vs : List Datum) → Calculated b w s → AllOf es (Bits w) vs → 1 ≤ length vs → IsOf es s (op_value (op.BvBinary b) vs)
words_sorted es b w s [] k a n = absurd (omega arith)
words_sorted es b w s (v ∷ vs) (comparison c e) a n =
    subst (λ s. IsOf es s (on_words b (word_of v) vs)) (sym e) (subst (λ t. IsOf es Truth (cond t (datum.Truth (eqb (folded b (word_of v) vs).bits 1)) (datum.Bits (folded b (word_of v) vs)))) (sym c) tt)
words_sorted es b w s (v ∷ vs) (arithmetic c i e) a n =
    let p = bits_are es w v a.0 in
    let q = folded_word es b w (word_of v) vs i p.1 p.2 a.1 in
    subst (λ s. IsOf es s (on_words b (word_of v) vs)) (sym e)
    (subst (λ t. IsOf es (Bits w) (cond t (datum.Truth (eqb (folded b (word_of v) vs).bits 1)) (datum.Bits (folded b (word_of v) vs)))) (sym c) (q.0, q.1))

two_at_least : (b : Binary) (n : ℕ) → cond (is_chain b) (nat_le 2 n) (eqb n 2) ≡ true → 2 ≤ n
two_at_least b n h = go (is_chain b) h
  where
    go : (c : Bool) → cond c (nat_le 2 n) (eqb n 2) ≡ true → 2 ≤ n
    go true h = grind (arith, nat_tests)
    go false h = grind (arith, nat_tests)

not_sorted : (es : List Enumeration) (vs : List Datum) → IsOf es Truth (op_value op.Not vs)
not_sorted es [] = tt
not_sorted es (a ∷ []) = tt
not_sorted es (a ∷ b ∷ vs) = tt

implied_sorted : (es : List Enumeration) (vs : List Datum) → IsOf es Truth (op_value op.Implies vs)
implied_sorted es [] = tt
implied_sorted es (v ∷ vs) = tt

equal_sorted : (es : List Enumeration) (vs : List Datum) → IsOf es Truth (op_value op.Equal vs)
equal_sorted es [] = tt
equal_sorted es (v ∷ vs) = tt

two_left : (ss : List Sort) → eqb (suc (length ss)) 3 ≡ true → length ss ≡ 2
two_left ss h = grind (arith, nat_tests)

ite_sorted : (es : List Enumeration) (ss : List Sort) (vs : List Datum) (s : Sort) → length ss ≡ 2 → common ss ≡ Some s → Fit es (Truth ∷ ss) vs → IsOf es s (op_value op.Ite vs)
ite_sorted es [] vs s n h f = absurd (omega arith)
ite_sorted es (x ∷ []) vs s n h f = absurd (omega arith)
ite_sorted es (x ∷ y ∷ []) vs s n h f =
    let p = fit_three es Truth x y vs f in
    let a = common_one (x ∷ y ∷ []) s h in
    subst (λ vs. IsOf es s (op_value op.Ite vs)) (sym p.3) (chosen_of es s (truth_of p.0) p.1 p.2 (subst (λ t. IsOf es t p.1) a.0 p.5) (subst (λ t. IsOf es t p.2) a.1.0 p.6))
ite_sorted es (x ∷ y ∷ z ∷ ss) vs s n h f = absurd (omega arith)

-- the value of an operator that fits
pub fitting_sorted : (es : List Enumeration) (o : TermOp) (ss : List Sort) (vs : List Datum) (s : Sort) → count_fits o (length ss) ≡ true → fitting o ss ≡ Ok s → Fit es ss vs → IsOf es s (op_value o vs)
fitting_sorted es op.Not ss vs s c h f = truths es s _ (logical_truth (common ss) s h) (not_sorted es vs)
fitting_sorted es op.And ss vs s c h f = truths es s (op_value op.And vs) (logical_truth (common ss) s h) tt
fitting_sorted es op.Or ss vs s c h f = truths es s (op_value op.Or vs) (logical_truth (common ss) s h) tt
fitting_sorted es op.Xor ss vs s c h f = truths es s (op_value op.Xor vs) (logical_truth (common ss) s h) tt
fitting_sorted es op.Implies ss vs s c h f = truths es s _ (logical_truth (common ss) s h) (implied_sorted es vs)
fitting_sorted es op.Equal ss vs s c h f = truths es s _ (compared_truth (common ss) s h) (equal_sorted es vs)
fitting_sorted es op.Distinct ss vs s c h f = truths es s (op_value op.Distinct vs) (compared_truth (common ss) s h) tt
fitting_sorted es op.Ite (Truth ∷ ss) vs s c h f = ite_sorted es ss vs s (two_left ss c) (chosen_is (common ss) s h) f
fitting_sorted es op.Concat (Bits v ∷ Bits w ∷ []) vs s c h f =
    let p = fit_two es (Bits v) (Bits w) vs f in
    let a = bits_are es v p.0 p.3 in
    let b = bits_are es w p.1 p.4 in
    let small = widened_is (v + w) s h in
    let wide : (word_of p.0).width + (word_of p.1).width ≡ v + w = omega (arith, a.1, b.1) in
    subst (λ vs. IsOf es s (op_value op.Concat vs)) (sym p.2)
    (bits_of es s (v + w) (binary_of two.Concat (word_of p.0) (word_of p.1)) small.1 wide (binary_is_word two.Concat (word_of p.0) (word_of p.1) a.2 b.2 (subst (λ n. n ≤ WIDEST) (sym wide) small.0)))
fitting_sorted es (op.Extract high low) (Bits w ∷ []) vs s c h f =
    let p = fit_one es (Bits w) vs f in
    let a = bits_are es w p.0 p.2 in
    let e = extracted high low w s h in
    subst (λ vs. IsOf es s (op_value (op.Extract high low) vs)) (sym p.1)
    (bits_of es s (high - low + 1) (slice_of (word_of p.0) high low) e.2 refl (slice_is_word (word_of p.0) high low a.2 e.0 (subst (λ n. high < n) (sym a.1) e.1)))
fitting_sorted es (op.ZeroExtend n) (Bits w ∷ []) vs s c h f =
    let p = fit_one es (Bits w) vs f in
    let a = bits_are es w p.0 p.2 in
    let small = widened_is (w + n) s h in
    subst (λ vs. IsOf es s (op_value (op.ZeroExtend n) vs)) (sym p.1)
    (bits_of es s (w + n) (uext_of (word_of p.0) n) small.1 (ap (λ v. v + n) a.1) (uext_is_word (word_of p.0) n a.2 (subst (λ v. v + n ≤ WIDEST) (sym a.1) small.0)))
fitting_sorted es (op.SignExtend n) (Bits w ∷ []) vs s c h f =
    let p = fit_one es (Bits w) vs f in
    let a = bits_are es w p.0 p.2 in
    let small = widened_is (w + n) s h in
    subst (λ vs. IsOf es s (op_value (op.SignExtend n) vs)) (sym p.1)
    (bits_of es s (w + n) (sext_of (word_of p.0) n) small.1 (ap (λ v. v + n) a.1) (sext_of_is_word (word_of p.0) n a.2 (subst (λ v. v + n ≤ WIDEST) (sym a.1) small.0)))
fitting_sorted es (op.BvUnary u) (Bits w ∷ []) vs s c h f =
    let p = fit_one es (Bits w) vs f in
    let a = bits_are es w p.0 p.2 in
    let e = negation_width u w s h in
    subst (λ vs. IsOf es s (op_value (op.BvUnary u) vs)) (sym p.1)
    (bits_of es s w (unary_of u (word_of p.0)) e.0 (negated_width u (word_of p.0) e.1 ∙ a.1) (unary_is_word u (word_of p.0) a.2))
fitting_sorted es (op.BvBinary b) ss vs s c h f =
    let k = calculated_is b (common ss) s h in
    let a = fit_all es (Bits k.0) ss vs (common_one ss (Bits k.0) k.1) f in
    words_sorted es b k.0 s vs k.2 a (let n : 2 ≤ length ss = two_at_least b (length ss) c in omega (arith, n, fit_long es ss vs f))
fitting_sorted es o ss vs s c h f = absurd (cc)

pub op_sorted : (es : List Enumeration) (o : TermOp) (ss : List Sort) (vs : List Datum) (s : Sort) → op_sort o ss ≡ Ok s → Fit es ss vs → IsOf es s (op_value o vs)
op_sorted es o ss vs s h f =
    let p = taken (count_fits o (length ss)) (fitting o ss) (M 12) s h in
    fitting_sorted es o ss vs s p.0 p.1 f

-- what stands first, and the widths of the rest
pub words_wide : (es : List Enumeration) (b : Binary) (ss : List Sort) (v : Datum) (vs : List Datum) (s : Sort) → op_sort (op.BvBinary b) ss ≡ Ok s → Fit es ss (v ∷ vs) → IsBits v × AreWide b (word_of v) vs
words_wide es b ss v vs s h f =
    let p = taken (count_fits (op.BvBinary b) (length ss)) (fitting (op.BvBinary b) ss) (M 12) s h in
    let k = calculated_is b (common ss) s p.1 in
    let a = fit_all es (Bits k.0) ss (v ∷ vs) (common_one ss (Bits k.0) k.1) f in
    let d = bits_are es k.0 v a.0 in
    (is_bits es k.0 v a.0, go k.0 k.2 d.1 d.2 a.1 p.0)
  where
    is_bits : (es : List Enumeration) (w : ℕ) (d : Datum) → IsOf es (Bits w) d → IsBits d
    is_bits es w (datum.Truth b) h = absurd h
    is_bits es w (datum.Bits v) h = tt
    is_bits es w (datum.Constant n i) h = absurd h

    go : (w : ℕ) → Calculated b w s → (word_of v).width ≡ w → IsWord (word_of v) → AllOf es (Bits w) vs → count_fits (op.BvBinary b) (length ss) ≡ true → AreWide b (word_of v) vs
    go w (comparison c e) d i a n =
        compared_wide es b w (word_of v) vs c (let two_of : length ss ≡ 2 = comparison_count b (length ss) c n in let l : suc (length vs) ≡ length ss = fit_long es ss (v ∷ vs) f in omega arith) d a
    go w (arithmetic c i2 e) d i a n = folded_wide es b w (word_of v) vs i2 d i a

pub can_words : (o : TermOp) (b : Binary) (all : List Datum) (v : Datum) (vs : List Datum) → CanApply o all → o ≡ op.BvBinary b → all ≡ v ∷ vs → IsBits v × AreWide b (word_of v) vs
can_words o b all v vs can e f =
    words_wide can.enumerations b can.sorts v vs can.sort (subst (λ o. op_sort o can.sorts ≡ Ok can.sort) e can.sorted) (subst (Fit can.enumerations can.sorts) f can.fit)
