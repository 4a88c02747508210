-- An operator gives a value of the sort that its application has.
use Rattle.std.proofs.Common.{◌≡◌, ℕ, suc, ◌≤◌, Bool, true, false, cond, nat_le, eqb, List, [], ◌∷◌, length, Option, Some, None, Result, Ok, Err, refl, sym, ap, ◌∙◌, subst, arith}
use Rattle.std.specs.List.{AllByRecursion, list_all}
use Rattle.std.proofs.lemmas.Bool.{and_parts}
use Rattle.std.proofs.lemmas.Bool.Decides.{nat_tests}
use Rattle.std.proofs.lemmas.Option.{same_Some, none-some}
use Rattle.text_core.specs.declared.place.Kind.{Kind}
use Rattle.text_core.specs.declared.place.Kind.TheVariants.{M}
use Rattle.word_core.specs.Words.{BitVector, IsWord}
use Rattle.word_core.specs.Table.{BinaryFits, binary_of, binary_width}
use Rattle.word_core.specs.declared.word.TheConstants.{WIDEST}
use Rattle.word_core.specs.declared.kinds.Binary.{Binary}
use Rattle.word_core.specs.declared.kinds.Binary.TheVariants as two
use Rattle.word_core.specs.laws.Rows.{binary_is_word}
use Rattle.moxi_terms.specs.declared.data.Sort.{Sort}
use Rattle.moxi_terms.specs.declared.data.Sort.TheVariants.{Truth, Bits, Choice}
use Rattle.moxi_terms.specs.declared.data.Datum.{Datum}
use Rattle.moxi_terms.specs.declared.data.Datum.TheVariants as datum
use Rattle.moxi_terms.specs.declared.term.Enumeration.{Enumeration}
use Rattle.moxi_terms.specs.Operators.{word_of, folded, is_comparison}
use Rattle.moxi_terms.specs.Sorts.{IsOf, Fit, same_sort, common, is_chain, is_arithmetic, logical, compared, chosen, calculated, widened}
use Rattle.moxi_terms.specs.Applied.{AreWide, IsBits}

-- a choice that came out well
pub taken : {A E : Type 0} (b : Bool) (x : Result A E) (e : E) (y : A) → cond b x (Err e) ≡ Ok y → (b ≡ true) × (x ≡ Ok y)
taken true x e y h = (refl, h)
taken false x e y h = absurd (cc)

pub same_ok : {A E : Type 0} (x y : A) → (let r : Result A E = Ok x in r) ≡ Ok y → x ≡ y
same_ok x y h = cc

guarded : {A : Type 0} (b : Bool) (x y : A) → cond b (Some x) None ≡ Some y → (b ≡ true) × (x ≡ y)
guarded true x y h = (refl, same_Some x y h)
guarded false x y h = absurd (none-some y h)

eqb_is : (a b : ℕ) → eqb a b ≡ true → a ≡ b
eqb_is a b h = grind (arith, nat_tests)

pub same_sorts_are : (s t : Sort) → same_sort s t ≡ true → s ≡ t
same_sorts_are Truth Truth h = refl
same_sorts_are Truth (Bits w) h = absurd (cc)
same_sorts_are Truth (Choice n) h = absurd (cc)
same_sorts_are (Bits v) Truth h = absurd (cc)
same_sorts_are (Bits v) (Bits w) h = ap Bits (eqb_is v w h)
same_sorts_are (Bits v) (Choice n) h = absurd (cc)
same_sorts_are (Choice n) Truth h = absurd (cc)
same_sorts_are (Choice n) (Bits w) h = absurd (cc)
same_sorts_are (Choice n) (Choice m) h = ap Choice (eqb_is n m h)

-- each of the sorts is this one
abbrev pub AllOne : Sort → List Sort → Type 0
AllOne s ss = AllByRecursion (λ t. t ≡ s) ss

all_same : (s : Sort) (ss : List Sort) → list_all (same_sort s) ss ≡ true → AllOne s ss
all_same s [] h = tt
all_same s (t ∷ ts) h = let p = and_parts (same_sort s t) (list_all (same_sort s) ts) h in (sym (same_sorts_are s t p.0), all_same s ts p.1)

pub common_one : (ss : List Sort) (s : Sort) → common ss ≡ Some s → AllOne s ss
common_one [] s h = tt
common_one (t ∷ ts) s h = let p = guarded (list_all (same_sort t) ts) t s h in subst (λ s. AllOne s (t ∷ ts)) p.1 (refl, all_same t ts p.0)

-- each of the values is of the sort
abbrev pub AllOf : List Enumeration → Sort → List Datum → Type 0
AllOf es s vs = AllByRecursion (IsOf es s) vs

pub fit_all : (es : List Enumeration) (s : Sort) (ss : List Sort) (vs : List Datum) → AllOne s ss → Fit es ss vs → AllOf es s vs
fit_all es s [] [] a f = tt
fit_all es s [] (v ∷ vs) a f = absurd f
fit_all es s (t ∷ ts) [] a f = absurd f
fit_all es s (t ∷ ts) (v ∷ vs) a f = (subst (λ t. IsOf es t v) a.0 f.0, fit_all es s ts vs a.1 f.1)

pub fit_long : (es : List Enumeration) (ss : List Sort) (vs : List Datum) → Fit es ss vs → length vs ≡ length ss
fit_long es [] [] f = refl
fit_long es [] (v ∷ vs) f = absurd f
fit_long es (s ∷ ss) [] f = absurd f
fit_long es (s ∷ ss) (v ∷ vs) f = ap suc (fit_long es ss vs f.1)

pub fit_one : (es : List Enumeration) (s : Sort) (vs : List Datum) → Fit es (s ∷ []) vs → (a : Datum) × (vs ≡ a ∷ []) × IsOf es s a
fit_one es s [] f = absurd f
fit_one es s (a ∷ []) f = (a, refl, f.0)
fit_one es s (a ∷ b ∷ vs) f = absurd f.1

pub fit_two : (es : List Enumeration) (s t : Sort) (vs : List Datum) → Fit es (s ∷ t ∷ []) vs → (a : Datum) × (b : Datum) × (vs ≡ a ∷ b ∷ []) × IsOf es s a × IsOf es t b
fit_two es s t [] f = absurd f
fit_two es s t (a ∷ vs) f = let p = fit_one es t vs f.1 in (a, p.0, ap (λ vs. a ∷ vs) p.1, f.0, p.2)

pub fit_three : (es : List Enumeration) (s t u : Sort) (vs : List Datum) → Fit es (s ∷ t ∷ u ∷ []) vs
    → (a : Datum) × (b : Datum) × (c : Datum) × (vs ≡ a ∷ b ∷ c ∷ []) × IsOf es s a × IsOf es t b × IsOf es u c
fit_three es s t u [] f = absurd f
fit_three es s t u (a ∷ vs) f = let p = fit_two es t u vs f.1 in (a, p.0, p.1, ap (λ vs. a ∷ vs) p.2, f.0, p.3, p.4)

-- a value of a word's sort is a word of its width
pub bits_are : (es : List Enumeration) (w : ℕ) (d : Datum) → IsOf es (Bits w) d → (d ≡ datum.Bits (word_of d)) × ((word_of d).width ≡ w) × IsWord (word_of d)
bits_are es w (datum.Truth b) h = absurd h
bits_are es w (datum.Bits v) h = (refl, h.0, h.1)
bits_are es w (datum.Constant n i) h = absurd h

pub truths : (es : List Enumeration) (s : Sort) (d : Datum) → s ≡ Truth → IsOf es Truth d → IsOf es s d
truths es s d e h = subst (λ s. IsOf es s d) (sym e) h

pub logical_truth : (o : Option Sort) (s : Sort) → logical o ≡ Ok s → s ≡ Truth
logical_truth None s h = absurd (cc)
logical_truth (Some Truth) s h = sym (same_ok Truth s h)
logical_truth (Some (Bits w)) s h = absurd (cc)
logical_truth (Some (Choice n)) s h = absurd (cc)

pub compared_truth : (o : Option Sort) (s : Sort) → compared o ≡ Ok s → s ≡ Truth
compared_truth None s h = absurd (cc)
compared_truth (Some t) s h = sym (same_ok Truth s h)

pub chosen_is : (o : Option Sort) (s : Sort) → chosen o ≡ Ok s → o ≡ Some s
chosen_is None s h = absurd (cc)
chosen_is (Some t) s h = ap Some (same_ok t s h)

-- the width of an operator on words of this width, and the widths that it asks for
pub arithmetic_fits : (b : Binary) (w : ℕ) → is_arithmetic b ≡ true → BinaryFits b w w × (binary_width b w w ≡ w)
arithmetic_fits two.Iff w h = absurd (cc)
arithmetic_fits two.Implies w h = absurd (cc)
arithmetic_fits two.Concat w h = absurd (cc)
arithmetic_fits b w h = (cc, cc)

comparison_fits : (b : Binary) (w : ℕ) → is_comparison b ≡ true → BinaryFits b w w
comparison_fits two.Iff w h = absurd (cc)
comparison_fits two.Implies w h = absurd (cc)
comparison_fits two.Concat w h = absurd (cc)
comparison_fits b w h = refl

-- a comparison has two arguments
pub comparison_count : (b : Binary) (n : ℕ) → is_comparison b ≡ true → cond (is_chain b) (nat_le 2 n) (eqb n 2) ≡ true → n ≡ 2
comparison_count two.And n h c = absurd (cc)
comparison_count two.Or n h c = absurd (cc)
comparison_count two.Xor n h c = absurd (cc)
comparison_count two.Add n h c = absurd (cc)
comparison_count two.Mul n h c = absurd (cc)
comparison_count b n h c = eqb_is n 2 c

-- the word so far, and one more of its width
step_fits : (b : Binary) (w : ℕ) (x y : BitVector) → is_arithmetic b ≡ true → x.width ≡ w → y.width ≡ w → BinaryFits b x.width y.width
step_fits b w x y h e f = subst (λ v. BinaryFits b v y.width) (sym e) (subst (λ v. BinaryFits b w v) (sym f) (arithmetic_fits b w h).0)

step_wide : (b : Binary) (w : ℕ) (x y : BitVector) → is_arithmetic b ≡ true → x.width ≡ w → y.width ≡ w → (binary_of b x y).width ≡ w
step_wide b w x y h e f = ap (λ v. binary_width b v y.width) e ∙ ap (binary_width b w) f ∙ (arithmetic_fits b w h).1

-- from the left, words of one width give a word of that width
pub folded_word : (es : List Enumeration) (b : Binary) (w : ℕ) (x : BitVector) (vs : List Datum) → is_arithmetic b ≡ true → x.width ≡ w → IsWord x → AllOf es (Bits w) vs
    → ((folded b x vs).width ≡ w) × IsWord (folded b x vs)
folded_word es b w x [] h e i a = (e, i)
folded_word es b w x (v ∷ vs) h e i a =
    let p = bits_are es w v a.0 in
    folded_word es b w (binary_of b x (word_of v)) vs h (step_wide b w x (word_of v) h e p.1) (binary_is_word b x (word_of v) i p.2 (step_fits b w x (word_of v) h e p.1)) a.1

is_bits : (es : List Enumeration) (w : ℕ) (d : Datum) → IsOf es (Bits w) d → IsBits d
is_bits es w (datum.Truth b) h = absurd h
is_bits es w (datum.Bits v) h = tt
is_bits es w (datum.Constant n i) h = absurd h

pub folded_wide : (es : List Enumeration) (b : Binary) (w : ℕ) (x : BitVector) (vs : List Datum) → is_arithmetic b ≡ true → x.width ≡ w → IsWord x → AllOf es (Bits w) vs → AreWide b x vs
folded_wide es b w x [] h e i a = tt
folded_wide es b w x (v ∷ vs) h e i a =
    let p = bits_are es w v a.0 in
    let fits = step_fits b w x (word_of v) h e p.1 in
    (is_bits es w v a.0, fits, folded_wide es b w (binary_of b x (word_of v)) vs h (step_wide b w x (word_of v) h e p.1) (binary_is_word b x (word_of v) i p.2 fits) a.1)

pub compared_wide : (es : List Enumeration) (b : Binary) (w : ℕ) (x : BitVector) (vs : List Datum) → is_comparison b ≡ true → length vs ≡ 1 → x.width ≡ w → AllOf es (Bits w) vs → AreWide b x vs
compared_wide es b w x [] h l e a = tt
compared_wide es b w x (v ∷ []) h l e a =
    let p = bits_are es w v a.0 in
    (is_bits es w v a.0, subst (λ u. BinaryFits b u (word_of v).width) (sym e) (subst (λ u. BinaryFits b w u) (sym p.1) (comparison_fits b w h)), tt)
compared_wide es b w x (v ∷ u ∷ vs) h l e a = absurd (omega arith)

-- the sort of an operator on words, taken apart
pub data Calculated (b : Binary) (w : ℕ) (s : Sort) : Type 0 where
  comparison : is_comparison b ≡ true → s ≡ Truth → Calculated b w s
  arithmetic : is_comparison b ≡ false → is_arithmetic b ≡ true → s ≡ Bits w → Calculated b w s

apart : (b : Binary) (w : ℕ) (s : Sort) (p q : Bool) → is_comparison b ≡ p → is_arithmetic b ≡ q → cond {A = Result Sort Kind} p (Ok Truth) (cond q (Ok (Bits w)) (Err (M 5))) ≡ Ok s → Calculated b w s
apart b w s true q e f h = comparison e (sym (same_ok Truth s h))
apart b w s false true e f h = arithmetic e f (sym (same_ok (Bits w) s h))
apart b w s false false e f h = absurd (cc)

pub calculated_is : (b : Binary) (o : Option Sort) (s : Sort) → calculated b o ≡ Ok s → (w : ℕ) × (o ≡ Some (Bits w)) × Calculated b w s
calculated_is b None s h = absurd (cc)
calculated_is b (Some Truth) s h = absurd (cc)
calculated_is b (Some (Bits w)) s h = (w, refl, apart b w s (is_comparison b) (is_arithmetic b) refl refl h)
calculated_is b (Some (Choice n)) s h = absurd (cc)

pub widened_is : (w : ℕ) (s : Sort) → widened w ≡ Ok s → (w ≤ WIDEST) × (s ≡ Bits w)
widened_is w s h = let p = taken (nat_le w WIDEST) (Ok (Bits w)) (M 8) s h in (grind (arith, nat_tests, p.0), sym (same_ok (Bits w) s p.1))
