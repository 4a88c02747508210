-- Words of values: their widths are words' widths, and the value comes back.
use Rattle.std.proofs.Common.{◌≡◌, ℕ, zero, suc, ◌+◌, ◌<◌, ◌≤◌, ◌^◌, true, false, cond, nat_le, eqb, List, [], ◌∷◌, length, Some, refl, sym, ap, ◌∙◌, subst, arith, inl, inr, ◌⊎◌}
use Rattle.std.specs.Prelude.{slice_get}
use Rattle.std.specs.List.{AllByRecursion}
use Rattle.std.proofs.lemmas.Option.{same_Some, none-some}
use Rattle.std.proofs.lemmas.Bool.Decides.{nat_tests}
use Rattle.std.proofs.Math.Nat.{pow-le-pow_right}
use Rattle.std.proofs.Math.Pow.{add-lt-pow}
use Rattle.btor_tree.proofs.Widths.{one_lt}
use Rattle.word_core.specs.Words.{BitVector, IsWord}
use Rattle.word_core.specs.Table.{bit_of}
use Rattle.word_core.specs.declared.word.TheConstants.{WIDEST}
use Rattle.moxi_terms.specs.declared.data.Sort.{Sort}
use Rattle.moxi_terms.specs.declared.data.Sort.TheVariants.{Truth, Bits, Choice}
use Rattle.moxi_terms.specs.declared.data.Datum.{Datum}
use Rattle.moxi_terms.specs.declared.data.Datum.TheVariants as datum
use Rattle.moxi_terms.specs.declared.term.Enumeration.{Enumeration}
use Rattle.moxi_terms.specs.Sorts.{IsOf}
use Rattle.moxi_terms.proofs.ValueLaws.{read_at}
use Rattle.moxi_terms.specs.Names.{constant_count}
use Rattle.moxi_lines.specs.Codes.{choice_width, code_of, datum_of, sort_bits, width_upto}
use Rattle.moxi_lines.specs.TermLaws.{HaveCodes}
use Rattle.text_core.proofs.Truths.{bool_cases}

grow_step : (count n : ℕ) → (nat_le count (2 ^ width_upto count n) ≡ true) × (width_upto count (suc n) ≡ width_upto count n) ⊎ (nat_le count (2 ^ width_upto count n) ≡ false) × (width_upto count (suc n) ≡ suc (width_upto count n))
grow_step count n =
    elim (bool_cases (nat_le count (2 ^ width_upto count n))) [
      | inl e ↦ inl (e, ap (λ b. cond b (width_upto count n) (suc (width_upto count n))) e)
      | inr e ↦ inr (e, ap (λ b. cond b (width_upto count n) (suc (width_upto count n))) e)
    ]

is_le : (a b : ℕ) → nat_le a b ≡ true → a ≤ b
is_le a b h = grind (arith, nat_tests)

is_more : (a b : ℕ) → nat_le a b ≡ false → b < a
is_more a b h = grind (arith, nat_tests)

pub width_low : (count n : ℕ) → 1 ≤ width_upto count n
width_low count zero = omega arith
width_low count (suc n) =
    elim (grow_step count n) [
      | inl e ↦ subst (λ w. 1 ≤ w) (sym e.1) (width_low count n)
      | inr e ↦ omega (arith, e.1)
    ]

width_holds : (count n : ℕ) → (count ≤ 2 ^ width_upto count n) ⊎ (width_upto count n ≡ suc n)
width_holds count zero = inr refl
width_holds count (suc n) =
    elim (grow_step count n) [
      | inl e ↦ inl (subst (λ w. count ≤ 2 ^ w) (sym e.1) (is_le count (2 ^ width_upto count n) e.0))
      | inr e ↦ elim (width_holds count n) [
        | inl h ↦ absurd (omega (arith, h, is_more count (2 ^ width_upto count n) e.0))
        | inr h ↦ inr (e.1 ∙ ap suc h)
      ]
    ]

below_power : (n : ℕ) → n < 2 ^ n
below_power zero = omega arith
below_power (suc zero) = omega arith
below_power (suc (suc n)) =
    let h : suc n < 2 ^ suc n = below_power (suc n) in
    let e : suc (suc n) ≡ suc n + 1 = omega arith in
    subst (λ m. m < 2 ^ suc (suc n)) (sym e) (add-lt-pow (suc n) h (one_lt (suc n) (omega arith)))

pub choice_holds : (count : ℕ) → count ≤ 2 ^ choice_width count
choice_holds count =
    elim (width_holds count count) [
      | inl h ↦ h
      | inr h ↦ subst (λ w. count ≤ 2 ^ w) (sym h) (let p : suc count < 2 ^ suc count = below_power (suc count) in omega (arith, p))
    ]

pub width_high : (count limit n : ℕ) → 1 ≤ limit → count ≤ 2 ^ limit → width_upto count n ≤ limit
width_high count limit zero low h = low
width_high count limit (suc n) low h =
    elim (grow_step count n) [
      | inl e ↦ subst (λ w. w ≤ limit) (sym e.1) (width_high count limit n low h)
      | inr e ↦ elim (bool_cases (nat_le limit (width_upto count n))) [
        | inl f ↦
            let le : limit ≤ width_upto count n = is_le limit (width_upto count n) f in
            let p : 2 ^ limit ≤ 2 ^ width_upto count n = pow-le-pow_right (omega arith) le in
            absurd (omega (arith, p, h, is_more count (2 ^ width_upto count n) e.0))
        | inr f ↦ omega (arith, e.1, is_more limit (width_upto count n) f)
      ]
    ]

pub choice_high : (count : ℕ) → count ≤ 2 ^ WIDEST → choice_width count ≤ WIDEST
choice_high count h = width_high count WIDEST count (omega arith) h

all_get : {A : Type 0} (P : A → Type 0) (xs : List A) (i : ℕ) (x : A) → AllByRecursion P xs → slice_get xs i ≡ Some x → P x
all_get P [] i x a h = absurd (none-some x h)
all_get P (y ∷ ys) zero x a h = subst P (same_Some y x h) a.0
all_get P (y ∷ ys) (suc i) x a h = all_get P ys i x a.1 h

pub count_is : (es : List Enumeration) (n : ℕ) (e : Enumeration) → slice_get es n ≡ Some e → constant_count es n ≡ length e.constants
count_is es n e h = ap (λ (x : Enumeration). length x.constants) (read_at es n e _ h)

-- the word of a value of a sort is a word of the sort's width
pub code_is_word : (es : List Enumeration) → HaveCodes es → (s : Sort) (d : Datum) → IsOf es s d → IsWord (code_of es d) × ((code_of es d).width ≡ sort_bits es s)
code_is_word es c Truth (datum.Truth true) h = ((omega arith, omega arith, omega arith), refl)
code_is_word es c Truth (datum.Truth false) h = ((omega arith, omega arith, omega arith), refl)
code_is_word es c Truth (datum.Bits v) h = absurd h
code_is_word es c Truth (datum.Constant n i) h = absurd h
code_is_word es c (Bits w) (datum.Truth b) h = absurd h
code_is_word es c (Bits w) (datum.Bits v) h = (h.1, h.0)
code_is_word es c (Bits w) (datum.Constant n i) h = absurd h
code_is_word es c (Choice k) (datum.Truth b) h = absurd h
code_is_word es c (Choice k) (datum.Bits v) h = absurd h
code_is_word es c (Choice k) (datum.Constant n i) h =
    let e = h.1.enumeration in
    let count = constant_count es n in
    let long : count ≡ length e.constants = ap (constant_count es) h.0 ∙ count_is es k e h.1.there in
    let few : count ≤ 2 ^ WIDEST = subst (λ m. m ≤ 2 ^ WIDEST) (sym long) (all_get (λ (x : Enumeration). length x.constants ≤ 2 ^ WIDEST) es k e c h.1.there) in
    let holds : count ≤ 2 ^ choice_width count = choice_holds count in
    let within : i < length e.constants = h.1.within in
    ((width_low count count, choice_high count few, omega (arith, holds, within, long)), ap (λ m. choice_width (constant_count es m)) h.0)

pub comes_back : (es : List Enumeration) (s : Sort) (d : Datum) → IsOf es s d → datum_of s (code_of es d) ≡ d
comes_back es Truth (datum.Truth true) h = refl
comes_back es Truth (datum.Truth false) h = refl
comes_back es Truth (datum.Bits v) h = absurd h
comes_back es Truth (datum.Constant n i) h = absurd h
comes_back es (Bits w) (datum.Truth b) h = absurd h
comes_back es (Bits w) (datum.Bits v) h = refl
comes_back es (Bits w) (datum.Constant n i) h = absurd h
comes_back es (Choice k) (datum.Truth b) h = absurd h
comes_back es (Choice k) (datum.Bits v) h = absurd h
comes_back es (Choice k) (datum.Constant n i) h = ap (λ m. datum.Constant m i) (sym h.0)

bit_from : (n : ℕ) → n < 2 → n ≡ bit_of (eqb n 1)
bit_from zero h = refl
bit_from (suc zero) h = refl
bit_from (suc (suc n)) h = absurd (omega (arith, h))

pub goes_back : (es : List Enumeration) (s : Sort) (x : BitVector) → IsWord x → x.width ≡ sort_bits es s → code_of es (datum_of s x) ≡ x
goes_back es Truth x w e =
    let small : x.bits < 2 = subst (λ n. x.bits < 2 ^ n) e w.2 in
    ap (λ n. let y : BitVector = record { width = 1; bits = n } in y) (sym (bit_from x.bits small)) ∙ ap (λ n. let y : BitVector = record { width = n; bits = x.bits } in y) (sym e)
goes_back es (Bits n) x w e = refl
goes_back es (Choice n) x w e = ap (λ n. let y : BitVector = record { width = n; bits = x.bits } in y) (sym e)
