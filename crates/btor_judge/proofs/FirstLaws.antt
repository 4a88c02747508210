-- What the first part of a line spells, read byte by byte.
use Rattle.std.proofs.Common.{◌≡◌, ◌*◌, ◌+◌, ◌-◌, ◌<◌, ◌≤◌, ◌⊎◌, ◌&&◌, ℕ, min, Bool, true, false, cond, eqb, List, [], ◌∷◌, ◌++◌, Option, Some, None, refl, sym, ap, ◌∙◌, subst, arith, inl, inr}
use Rattle.std.proofs.lemmas.Bool.{cases_Bool, cond_both, cond-true, cond-false, eqb-true, ne_eqb}
use Rattle.std.proofs.lemmas.Bool.Decides.{nat_tests}
use Rattle.text_core.specs.Bytes.{is_digit}
use Rattle.btor_tree.specs.Parts.{Parts, numeral, cap}
use Rattle.btor_tree.specs.Bytes.{number_after}
use Rattle.btor_tree.proofs.Numerals.{numeral_from, numeral_is}
use Rattle.btor_witness.specs.Shapes.{on_number, single_shape, is_passed}
use Rattle.btor_judge.specs.declared.first.First.{First}
use Rattle.btor_judge.specs.declared.first.First.TheVariants.{Empty, S, Sa, Sat, Dot, Comment, Mark, Marked, Number, Other}
use Rattle.btor_judge.specs.Firsts.{with_digit, first_byte, first_next, first_after, first_of, first_shape, first_number, is_comment}
use Rattle.text_core.proofs.Numerals.{all_digits, value_after}

-- one byte more
after_push : (bs : List ℕ) (first : First) (b : ℕ) → first_after first (bs ++ b ∷ []) ≡ first_next (first_after first bs) b
after_push [] first b = refl
after_push (c ∷ bs) first b = after_push bs (first_next first c) b

pub first_push : (bs : List ℕ) (b : ℕ) → first_of (bs ++ b ∷ []) ≡ first_next (first_of bs) b
first_push bs b = after_push bs Empty b

after_other : (bs : List ℕ) → first_after Other bs ≡ Other
after_other [] = refl
after_other (b ∷ bs) = after_other bs

after_comment : (bs : List ℕ) → first_after Comment bs ≡ Comment
after_comment [] = refl
after_comment (b ∷ bs) = after_comment bs

-- a number, or something else
abbrev number_or : Option ℕ → First
number_or None = Other
number_or (Some n) = Number n

-- a mark and a number, or something else
abbrev marked_or : ℕ → Option ℕ → First
marked_or mark None = Other
marked_or mark (Some n) = Marked mark n

after_number : (bs : List ℕ) (n : ℕ) → first_after (Number n) bs ≡ number_or (number_after n bs)
after_number [] n = refl
after_number (b ∷ bs) n =
    elim (cases_Bool (is_digit b)) [
      | inl t ↦ ap (λ f. first_after f bs) (cond-true (is_digit b) (Number (with_digit n b)) Other t) ∙ after_number bs (with_digit n b) ∙ ap number_or (sym (cond-true (is_digit b) (number_after (with_digit n b) bs) None t))
      | inr f ↦ ap (λ f. first_after f bs) (cond-false (is_digit b) (Number (with_digit n b)) Other f) ∙ after_other bs ∙ ap number_or (sym (cond-false (is_digit b) (number_after (with_digit n b) bs) None f))
    ]

after_marked : (bs : List ℕ) (mark n : ℕ) → first_after (Marked mark n) bs ≡ marked_or mark (number_after n bs)
after_marked [] mark n = refl
after_marked (b ∷ bs) mark n =
    elim (cases_Bool (is_digit b)) [
      | inl t ↦ ap (λ f. first_after f bs) (cond-true (is_digit b) (Marked mark (with_digit n b)) Other t) ∙ after_marked bs mark (with_digit n b) ∙ ap (marked_or mark) (sym (cond-true (is_digit b) (number_after (with_digit n b) bs) None t))
      | inr f ↦ ap (λ f. first_after f bs) (cond-false (is_digit b) (Marked mark (with_digit n b)) Other f) ∙ after_other bs ∙ ap (marked_or mark) (sym (cond-false (is_digit b) (number_after (with_digit n b) bs) None f))
    ]

after_mark : (b : ℕ) (bs : List ℕ) (mark : ℕ) → first_after (Mark mark) (b ∷ bs) ≡ marked_or mark (numeral (b ∷ bs))
after_mark b bs mark = after_marked (b ∷ bs) mark 0 ∙ ap (marked_or mark) (numeral_from (b ∷ bs) (omega arith))

-- marks with a number
shape_marked : (mark : ℕ) (o : Option ℕ) → first_shape (marked_or mark o) ≡ on_number mark o
shape_marked mark None = refl
shape_marked mark (Some n) = refl

shape_number : (o : Option ℕ) → first_shape (number_or o) ≡ None
shape_number None = refl
shape_number (Some n) = refl

number_number : (o : Option ℕ) → first_number (number_or o) ≡ o
number_number None = refl
number_number (Some n) = refl

-- no mark
unmarked : (b : ℕ) (o : Option ℕ) → eqb b 98 ≡ false → eqb b 106 ≡ false → eqb b 35 ≡ false → eqb b 64 ≡ false → on_number b o ≡ None
unmarked b None e f g h = refl
unmarked b (Some n) e f g h = rw (e, f, g, h) refl

-- neither `s` nor `.` begins the part
not_word : (b : ℕ) (bs : List ℕ) → eqb b 115 ≡ false → eqb b 46 ≡ false → single_shape (b ∷ bs) ≡ on_number b (numeral bs)
not_word b bs e f = rw (e, f) refl

digit_bounds : (b : ℕ) → is_digit b ≡ true → (48 ≤ b) × (b ≤ 57)
digit_bounds b t = (grind (arith, nat_tests), grind (arith, nat_tests))

digit_not : (b m : ℕ) → is_digit b ≡ true → (m < 48) ⊎ (57 < m) → eqb b m ≡ false
digit_not b m t far = ne_eqb b m (λ e. let d = digit_bounds b t in elim far [ inl low ↦ absurd (omega (arith, low, d.0, e)) | inr high ↦ absurd (omega (arith, high, d.1, e)) ])

-- what follows `s`
t_shape : (bs : List ℕ) → first_shape (first_after Sat bs) ≡ single_shape (115 ∷ 97 ∷ 116 ∷ bs)
t_shape [] = refl
t_shape (b ∷ bs) = ap first_shape (after_other bs) ∙ sym (unmarked 115 (numeral (97 ∷ 116 ∷ b ∷ bs)) refl refl refl refl)

a_shape : (bs : List ℕ) → first_shape (first_after Sa bs) ≡ single_shape (115 ∷ 97 ∷ bs)
a_shape [] = sym (unmarked 115 (numeral (97 ∷ [])) refl refl refl refl)
a_shape (b ∷ bs) =
    elim (cases_Bool (eqb b 116)) [
      | inl t ↦ subst (λ n. first_shape (first_after Sa (n ∷ bs)) ≡ single_shape (115 ∷ 97 ∷ n ∷ bs)) (sym (eqb-true b 116 t)) (t_shape bs)
      | inr f ↦ rw f (ap first_shape (after_other bs) ∙ sym (unmarked 115 (numeral (97 ∷ b ∷ bs)) refl refl refl refl))
    ]

s_shape : (bs : List ℕ) → first_shape (first_after S bs) ≡ single_shape (115 ∷ bs)
s_shape [] = refl
s_shape (b ∷ bs) =
    elim (cases_Bool (eqb b 97)) [
      | inl t ↦ subst (λ n. first_shape (first_after S (n ∷ bs)) ≡ single_shape (115 ∷ n ∷ bs)) (sym (eqb-true b 97 t)) (a_shape bs)
      | inr f ↦ rw f (ap first_shape (after_other bs) ∙ sym (unmarked 115 (numeral (b ∷ bs)) refl refl refl refl))
    ]

dot_shape : (bs : List ℕ) → first_shape (first_after Dot bs) ≡ single_shape (46 ∷ bs)
dot_shape [] = refl
dot_shape (b ∷ bs) = ap first_shape (after_other bs) ∙ sym (unmarked 46 (numeral (b ∷ bs)) refl refl refl refl)

mark_shape : (bs : List ℕ) (mark : ℕ) → first_shape (first_after (Mark mark) bs) ≡ on_number mark (numeral bs)
mark_shape [] mark = refl
mark_shape (b ∷ bs) mark = ap first_shape (after_mark b bs mark) ∙ shape_marked mark (numeral (b ∷ bs))

-- a part that begins with none of these
pub shape_is : (part : List ℕ) → first_shape (first_of part) ≡ single_shape part
shape_is [] = refl
shape_is (b ∷ bs) =
    let P : First → Type 0 = λ first. first_shape (first_after first bs) ≡ single_shape (b ∷ bs) in
    cond_both (is_digit b) (Number (b - 48)) _ P
    (λ t. ap first_shape (after_number bs (b - 48)) ∙ shape_number (number_after (b - 48) bs)
    ∙ sym (not_word b bs (digit_not b 115 t (inr (omega arith))) (digit_not b 46 t (inl (omega arith))) ∙ unmarked b (numeral bs) (digit_not b 98 t (inr (omega arith))) (digit_not b 106 t (inr (omega arith))) (digit_not b 35 t (inl (omega arith))) (digit_not b 64 t (inr (omega arith)))))
    (λ _. cond_both (eqb b 115) S _ P
    (λ t. subst (λ n. first_shape (first_after S bs) ≡ single_shape (n ∷ bs)) (sym (eqb-true b 115 t)) (s_shape bs))
    (λ s. cond_both (eqb b 46) Dot _ P
    (λ t. subst (λ n. first_shape (first_after Dot bs) ≡ single_shape (n ∷ bs)) (sym (eqb-true b 46 t)) (dot_shape bs))
    (λ d. cond_both (eqb b 59) Comment _ P
    (λ t. ap first_shape (after_comment bs) ∙ sym (not_word b bs s d ∙ ap (λ n. on_number n (numeral bs)) (eqb-true b 59 t) ∙ unmarked 59 (numeral bs) refl refl refl refl))
    (λ _. cond_both (eqb b 98) (Mark b) _ P (λ t. mark_shape bs b ∙ sym (not_word b bs s d))
    (λ e. cond_both (eqb b 106) (Mark b) _ P (λ t. mark_shape bs b ∙ sym (not_word b bs s d))
    (λ f. cond_both (eqb b 35) (Mark b) _ P (λ t. mark_shape bs b ∙ sym (not_word b bs s d))
    (λ g. cond_both (eqb b 64) (Mark b) Other P (λ t. mark_shape bs b ∙ sym (not_word b bs s d))
    (λ h. ap first_shape (after_other bs) ∙ sym (not_word b bs s d ∙ unmarked b (numeral bs) e f g h)))))))))

-- a part that is no number stays none
abbrev is_word : First → Bool
is_word Empty = false
is_word (Number n) = false
is_word first = true

word_next : (first : First) (b : ℕ) → is_word first ≡ true → is_word (first_next first b) ≡ true
word_next Empty b h = absurd (let g : false ≡ true = h in cc)
word_next S b h = cond_both (eqb b 97) Sa Other (λ f. is_word f ≡ true) (λ _. refl) (λ _. refl)
word_next Sa b h = cond_both (eqb b 116) Sat Other (λ f. is_word f ≡ true) (λ _. refl) (λ _. refl)
word_next Sat b h = refl
word_next Dot b h = refl
word_next Comment b h = refl
word_next (Mark mark) b h = cond_both (is_digit b) (Marked mark (with_digit 0 b)) Other (λ f. is_word f ≡ true) (λ _. refl) (λ _. refl)
word_next (Marked mark n) b h = cond_both (is_digit b) (Marked mark (with_digit n b)) Other (λ f. is_word f ≡ true) (λ _. refl) (λ _. refl)
word_next (Number n) b h = absurd (let g : false ≡ true = h in cc)
word_next Other b h = refl

word_none : (first : First) → is_word first ≡ true → first_number first ≡ None
word_none Empty h = refl
word_none S h = refl
word_none Sa h = refl
word_none Sat h = refl
word_none Dot h = refl
word_none Comment h = refl
word_none (Mark mark) h = refl
word_none (Marked mark n) h = refl
word_none (Number n) h = absurd (let g : false ≡ true = h in cc)
word_none Other h = refl

word_after : (bs : List ℕ) (first : First) → is_word first ≡ true → first_number (first_after first bs) ≡ None
word_after [] first h = word_none first h
word_after (b ∷ bs) first h = word_after bs (first_next first b) (word_next first b h)

no_numeral : (b : ℕ) (bs : List ℕ) → is_digit b ≡ false → numeral (b ∷ bs) ≡ None
no_numeral b bs f = numeral_is b bs ∙ ap (λ t. cond (t && all_digits bs) (Some (min (value_after 0 (b ∷ bs)) cap)) None) f

-- the number of a part
pub number_is : (part : List ℕ) → first_number (first_of part) ≡ numeral part
number_is [] = refl
number_is (b ∷ bs) =
    let P : First → Type 0 = λ first. first_number (first_after first bs) ≡ numeral (b ∷ bs) in
    cond_both (is_digit b) (Number (b - 48)) _ P
    (λ t.
    let d = digit_bounds b t in
    let small : min (10 * 0 + (b - 48)) cap ≡ b - 48 = omega (arith, d.0, d.1) in
    ap first_number (after_number bs (b - 48)) ∙ number_number (number_after (b - 48) bs) ∙ ap (λ n. number_after n bs) (sym small)
    ∙ sym (cond-true (is_digit b) (number_after (min (10 * 0 + (b - 48)) cap) bs) None t) ∙ numeral_from (b ∷ bs) (omega arith))
    (λ f.
    let none : (first : First) → is_word first ≡ true → P first = λ first h. word_after bs first h ∙ sym (no_numeral b bs f) in
    cond_both (eqb b 115) S _ P (λ _. none S refl)
    (λ _. cond_both (eqb b 46) Dot _ P (λ _. none Dot refl)
    (λ _. cond_both (eqb b 59) Comment _ P (λ _. none Comment refl)
    (λ _. cond_both (eqb b 98) (Mark b) _ P (λ _. none (Mark b) refl)
    (λ _. cond_both (eqb b 106) (Mark b) _ P (λ _. none (Mark b) refl)
    (λ _. cond_both (eqb b 35) (Mark b) _ P (λ _. none (Mark b) refl)
    (λ _. cond_both (eqb b 64) (Mark b) Other P (λ _. none (Mark b) refl) (λ _. none Other refl))))))))

-- a part that doesn't begin a comment is none
abbrev is_spoken : First → Bool
is_spoken Empty = false
is_spoken Comment = false
is_spoken first = true

spoken_next : (first : First) (b : ℕ) → is_spoken first ≡ true → is_spoken (first_next first b) ≡ true
spoken_next Empty b h = absurd (let g : false ≡ true = h in cc)
spoken_next S b h = cond_both (eqb b 97) Sa Other (λ f. is_spoken f ≡ true) (λ _. refl) (λ _. refl)
spoken_next Sa b h = cond_both (eqb b 116) Sat Other (λ f. is_spoken f ≡ true) (λ _. refl) (λ _. refl)
spoken_next Sat b h = refl
spoken_next Dot b h = refl
spoken_next Comment b h = absurd (let g : false ≡ true = h in cc)
spoken_next (Mark mark) b h = cond_both (is_digit b) (Marked mark (with_digit 0 b)) Other (λ f. is_spoken f ≡ true) (λ _. refl) (λ _. refl)
spoken_next (Marked mark n) b h = cond_both (is_digit b) (Marked mark (with_digit n b)) Other (λ f. is_spoken f ≡ true) (λ _. refl) (λ _. refl)
spoken_next (Number n) b h = cond_both (is_digit b) (Number (with_digit n b)) Other (λ f. is_spoken f ≡ true) (λ _. refl) (λ _. refl)
spoken_next Other b h = refl

spoken_none : (first : First) → is_spoken first ≡ true → is_comment first ≡ false
spoken_none Empty h = refl
spoken_none S h = refl
spoken_none Sa h = refl
spoken_none Sat h = refl
spoken_none Dot h = refl
spoken_none Comment h = absurd (let g : false ≡ true = h in cc)
spoken_none (Mark mark) h = refl
spoken_none (Marked mark n) h = refl
spoken_none (Number n) h = refl
spoken_none Other h = refl

spoken_after : (bs : List ℕ) (first : First) → is_spoken first ≡ true → is_comment (first_after first bs) ≡ false
spoken_after [] first h = spoken_none first h
spoken_after (b ∷ bs) first h = spoken_after bs (first_next first b) (spoken_next first b h)

pub comment_is : (part : List ℕ) (ps : Parts) → is_comment (first_of part) ≡ is_passed (part ∷ ps)
comment_is [] ps = refl
comment_is (b ∷ bs) ps =
    let P : First → Type 0 = λ first. is_comment (first_after first bs) ≡ eqb b 59 in
    elim (cases_Bool (eqb b 59)) [
      | inl t ↦
          let is : b ≡ 59 = eqb-true b 59 t in
          subst (λ n. is_comment (first_after (first_byte n) bs) ≡ eqb n 59) (sym is) (ap is_comment (after_comment bs))
      | inr f ↦
          let none : (first : First) → is_spoken first ≡ true → P first = λ first h. spoken_after bs first h ∙ sym f in
          cond_both (is_digit b) (Number (b - 48)) _ P (λ _. none (Number (b - 48)) refl)
          (λ _. cond_both (eqb b 115) S _ P (λ _. none S refl)
          (λ _. cond_both (eqb b 46) Dot _ P (λ _. none Dot refl)
          (λ _. cond_both (eqb b 59) Comment _ P (λ t. absurd (let g : true ≡ false = sym t ∙ f in cc))
          (λ _. cond_both (eqb b 98) (Mark b) _ P (λ _. none (Mark b) refl)
          (λ _. cond_both (eqb b 106) (Mark b) _ P (λ _. none (Mark b) refl)
          (λ _. cond_both (eqb b 35) (Mark b) _ P (λ _. none (Mark b) refl)
          (λ _. cond_both (eqb b 64) (Mark b) Other P (λ _. none (Mark b) refl) (λ _. none Other refl))))))))
    ]
