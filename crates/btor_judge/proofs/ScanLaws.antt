-- The parts of a line, read byte by byte.
use Rattle.std.proofs.Common.{◌≡◌, ◌≢◌, ◌⊎◌, ◌<◌, ℕ, Bool, true, false, not, cond, eqb, List, [], ◌∷◌, ◌++◌, length, None, refl, sym, ap, ◌∙◌, subst, arith, inl, inr}
use Rattle.std.proofs.lemmas.Bool.{cases_Bool, cond-true, cond-false, not-true, not-false, eqb-true}
use Rattle.btor_tree.specs.Parts.{Parts, is_blank, ends_part, onto_part, parts, numeral}
use Rattle.btor_witness.specs.Bytes.{without_return}
use Rattle.btor_witness.specs.Shapes.{is_passed, shape_of, single_shape, assignment_shape}
use Rattle.btor_judge.specs.declared.scan.Scan.{Scan}
use Rattle.btor_judge.specs.declared.line.Line.{Line}
use Rattle.btor_judge.specs.Firsts.{first_of, is_comment}
use Rattle.btor_judge.specs.Digit.{digits_of}
use Rattle.btor_judge.specs.Scanning.{part_at, ends_inside, count_to_four, scan_at, scan_of, ends_returned, line_of, entered, kept, scan_next, waited, line_next}
use Rattle.btor_judge.proofs.FirstLaws.{first_push, comment_is}
use Rattle.btor_judge.proofs.DigitLaws.{digits_push}

-- a byte more in the last part
abbrev onto_last : ℕ → Parts → Parts
onto_last b [] = (b ∷ []) ∷ []
onto_last b (p ∷ []) = (p ++ b ∷ []) ∷ []
onto_last b (p ∷ q ∷ ps) = p ∷ onto_last b (q ∷ ps)

-- a part more
abbrev with_part : ℕ → Parts → Parts
with_part b ps = ps ++ (b ∷ []) ∷ []

-- how many parts there are
more_parts : (b : ℕ) (t : Bool) (ps : Parts) → 0 < length (onto_part b t ps)
more_parts b true ps = omega arith
more_parts b false [] = omega arith
more_parts b false (p ∷ ps) = omega arith

some_parts : (b : ℕ) (bs : List ℕ) → is_blank b ≡ false → 0 < length (parts (b ∷ bs))
some_parts b bs f = subst (λ ps. 0 < length ps) (sym (cond-false (is_blank b) (parts bs) (onto_part b (ends_part bs) (parts bs)) f)) (more_parts b (ends_part bs) (parts bs))

inside_parts : (bs : List ℕ) → ends_inside bs ≡ true → 0 < length (parts bs)
inside_parts [] h = absurd (let g : false ≡ true = h in cc)
inside_parts (b ∷ []) h = some_parts b [] (not-true (is_blank b) h)
inside_parts (b ∷ c ∷ bs) h =
    elim (cases_Bool (is_blank b)) [
      | inl t ↦ subst (λ ps. 0 < length ps) (sym (cond-true (is_blank b) (parts (c ∷ bs)) _ t)) (inside_parts (c ∷ bs) h)
      | inr f ↦ some_parts b (c ∷ bs) f
    ]

-- behind a blank nothing changes
blank_push : (bs : List ℕ) (b : ℕ) → is_blank b ≡ true → parts (bs ++ b ∷ []) ≡ parts bs
blank_push [] b t = cond-true (is_blank b) [] _ t
blank_push (c ∷ []) b t =
    let last : parts (b ∷ []) ≡ [] = cond-true (is_blank b) [] _ t in
    ap (λ x. cond (is_blank c) x (onto_part c (is_blank b) x)) last ∙ ap (λ e. cond (is_blank c) [] (onto_part c e [])) t
blank_push (c ∷ d ∷ bs) b t = ap (λ x. cond (is_blank c) x (onto_part c (is_blank d) x)) (blank_push (d ∷ bs) b t)

-- a byte of a part, inside of one
onto_both : (c : ℕ) (t : Bool) (b : ℕ) (ps : Parts) → 0 < length ps → onto_part c t (onto_last b ps) ≡ onto_last b (onto_part c t ps)
onto_both c t b [] h = absurd (omega (arith, h))
onto_both c true b (p ∷ ps) h = refl
onto_both c false b (p ∷ []) h = refl
onto_both c false b (p ∷ q ∷ ps) h = refl

inside_push : (bs : List ℕ) (b : ℕ) → is_blank b ≡ false → ends_inside bs ≡ true → parts (bs ++ b ∷ []) ≡ onto_last b (parts bs)
inside_push [] b f h = absurd (let g : false ≡ true = h in cc)
inside_push (c ∷ []) b f h =
    let e : is_blank c ≡ false = not-true (is_blank c) h in
    rw (e, f) refl
inside_push (c ∷ d ∷ bs) b f h =
    let P = parts (d ∷ bs) in
    ap (λ x. cond (is_blank c) x (onto_part c (is_blank d) x)) (inside_push (d ∷ bs) b f h)
    ∙ elim (cases_Bool (is_blank c)) [
      | inl t ↦ cond-true (is_blank c) (onto_last b P) _ t ∙ sym (ap (onto_last b) (cond-true (is_blank c) P (onto_part c (is_blank d) P) t))
      | inr e ↦ cond-false (is_blank c) (onto_last b P) _ e ∙ onto_both c (is_blank d) b P (inside_parts (d ∷ bs) h) ∙ sym (ap (onto_last b) (cond-false (is_blank c) P (onto_part c (is_blank d) P) e))
    ]

-- a byte of a part, behind a blank or at the line's begin
with_both : (c : ℕ) (b : ℕ) (ps : Parts) → 0 < length ps → onto_part c false (with_part b ps) ≡ with_part b (onto_part c false ps)
with_both c b [] h = absurd (omega (arith, h))
with_both c b (p ∷ ps) h = refl

outside_push : (bs : List ℕ) (b : ℕ) → is_blank b ≡ false → ends_inside bs ≡ false → parts (bs ++ b ∷ []) ≡ with_part b (parts bs)
outside_push [] b f h = cond-false (is_blank b) [] ((b ∷ []) ∷ []) f
outside_push (c ∷ []) b f h =
    let e : is_blank c ≡ true = not-false (is_blank c) h in
    rw (e, f) refl
outside_push (c ∷ d ∷ bs) b f h =
    let P = parts (d ∷ bs) in
    ap (λ x. cond (is_blank c) x (onto_part c (is_blank d) x)) (outside_push (d ∷ bs) b f h)
    ∙ elim (cases_Bool (is_blank c)) [
      | inl t ↦ cond-true (is_blank c) (with_part b P) _ t ∙ sym (ap (with_part b) (cond-true (is_blank c) P (onto_part c (is_blank d) P) t))
      | inr e ↦ cond-false (is_blank c) (with_part b P) _ e
          ∙ elim (cases_Bool (is_blank d)) [
            | inl t ↦ rw t refl
            | inr g ↦ ap (λ x. onto_part c x (with_part b P)) g ∙ with_both c b P (some_parts d bs g) ∙ sym (ap (λ x. with_part b (onto_part c x P)) g)
          ]
          ∙ sym (ap (with_part b) (cond-false (is_blank c) P (onto_part c (is_blank d) P) e))
    ]

inside_last : (bs : List ℕ) (b : ℕ) → ends_inside (bs ++ b ∷ []) ≡ not (is_blank b)
inside_last [] b = refl
inside_last (c ∷ []) b = refl
inside_last (c ∷ d ∷ bs) b = inside_last (d ∷ bs) b

-- one byte more in the current part
kept_inside : (ps : Parts) (b : ℕ) → 0 < length ps → kept (entered (scan_at true ps)) b ≡ scan_at true (onto_last b ps)
kept_inside [] b h = absurd (omega (arith, h))
kept_inside (p ∷ []) b h = ap (λ f. record { count = 1; inside = true; first = f; digits = digits_of [] }) (sym (first_push p b))
kept_inside (p ∷ q ∷ []) b h = ap (λ d. record { count = 2; inside = true; first = first_of p; digits = d }) (sym (digits_push q b))
kept_inside (p ∷ q ∷ r ∷ []) b h = refl
kept_inside (p ∷ q ∷ r ∷ s ∷ []) b h = refl
kept_inside (p ∷ q ∷ r ∷ s ∷ t ∷ ps) b h = refl

-- the first byte of a part
kept_outside : (ps : Parts) (b : ℕ) → kept (entered (scan_at false ps)) b ≡ scan_at true (with_part b ps)
kept_outside [] b = refl
kept_outside (p ∷ []) b = ap (λ d. record { count = 2; inside = true; first = first_of p; digits = d }) (sym (digits_push [] b))
kept_outside (p ∷ q ∷ []) b = refl
kept_outside (p ∷ q ∷ r ∷ []) b = refl
kept_outside (p ∷ q ∷ r ∷ s ∷ ps) b = refl

same_scan : (i j : Bool) (ps qs : Parts) → i ≡ j → ps ≡ qs → scan_at i ps ≡ scan_at j qs
same_scan i j ps qs e f = ap (λ x. scan_at x ps) e ∙ ap (scan_at j) f

pub scan_push : (bs : List ℕ) (b : ℕ) → scan_next (scan_of bs) b ≡ scan_of (bs ++ b ∷ [])
scan_push bs b =
    let last = inside_last bs b in
    elim (cases_Bool (is_blank b)) [
      | inl t ↦ cond-true (is_blank b) (scan_at false (parts bs)) _ t ∙ same_scan false (ends_inside (bs ++ b ∷ [])) (parts bs) (parts (bs ++ b ∷ [])) (sym (last ∙ ap not t)) (sym (blank_push bs b t))
      | inr f ↦
          let here : true ≡ ends_inside (bs ++ b ∷ []) = sym (last ∙ ap not f) in
          cond-false (is_blank b) (scan_at false (parts bs)) (kept (entered (scan_of bs)) b) f
          ∙ elim (cases_Bool (ends_inside bs)) [
            | inl i ↦ ap (λ x. kept (entered (scan_at x (parts bs))) b) i ∙ kept_inside (parts bs) b (inside_parts bs i) ∙ same_scan true (ends_inside (bs ++ b ∷ [])) (onto_last b (parts bs)) (parts (bs ++ b ∷ [])) here (sym (inside_push bs b f i))
            | inr o ↦ ap (λ x. kept (entered (scan_at x (parts bs))) b) o ∙ kept_outside (parts bs) b ∙ same_scan true (ends_inside (bs ++ b ∷ [])) (with_part b (parts bs)) (parts (bs ++ b ∷ [])) here (sym (outside_push bs b f o))
          ]
    ]

-- a CR at the end
returned_is : (raw : List ℕ) → ends_returned raw ≡ true → without_return raw ++ 13 ∷ [] ≡ raw
returned_is [] h = absurd (let g : false ≡ true = h in cc)
returned_is (b ∷ []) h = ap (λ x. x ++ 13 ∷ []) (cond-true (eqb b 13) [] (b ∷ []) h) ∙ ap (λ n. n ∷ []) (sym (eqb-true b 13 h))
returned_is (b ∷ c ∷ raw) h = ap (λ x. b ∷ x) (returned_is (c ∷ raw) h)

unreturned_is : (raw : List ℕ) → ends_returned raw ≡ false → without_return raw ≡ raw
unreturned_is [] h = refl
unreturned_is (b ∷ []) h = cond-false (eqb b 13) [] (b ∷ []) h
unreturned_is (b ∷ c ∷ raw) h = ap (λ x. b ∷ x) (unreturned_is (c ∷ raw) h)

without_push : (raw : List ℕ) (b : ℕ) → without_return (raw ++ b ∷ []) ≡ cond (eqb b 13) raw (raw ++ b ∷ [])
without_push [] b = refl
without_push (c ∷ []) b = elim (cases_Bool (eqb b 13)) [ inl t ↦ rw t refl | inr f ↦ rw f refl ]
without_push (c ∷ d ∷ raw) b = ap (λ x. c ∷ x) (without_push (d ∷ raw) b) ∙ elim (cases_Bool (eqb b 13)) [ inl t ↦ rw t refl | inr f ↦ rw f refl ]

returned_push : (raw : List ℕ) (b : ℕ) → ends_returned (raw ++ b ∷ []) ≡ eqb b 13
returned_push [] b = refl
returned_push (c ∷ []) b = refl
returned_push (c ∷ d ∷ raw) b = returned_push (d ∷ raw) b

waited_is : (raw : List ℕ) → waited (line_of raw) ≡ scan_of raw
waited_is raw =
    let scan = scan_of (without_return raw) in
    elim (cases_Bool (ends_returned raw)) [
      | inl t ↦ cond-true (ends_returned raw) (scan_next scan 13) scan t ∙ scan_push (without_return raw) 13 ∙ ap scan_of (returned_is raw t)
      | inr f ↦ cond-false (ends_returned raw) (scan_next scan 13) scan f ∙ ap scan_of (unreturned_is raw f)
    ]

abbrev made_line : Scan → Bool → Line
made_line s i = record { scan = s; returned = i }

same_line : (s t : Scan) (i j : Bool) → s ≡ t → i ≡ j → made_line s i ≡ made_line t j
same_line s t i j e f = ap (λ x. made_line x i) e ∙ ap (made_line t) f

pub line_push : (raw : List ℕ) (b : ℕ) → line_next (line_of raw) b ≡ line_of (raw ++ b ∷ [])
line_push raw b =
    let now = waited_is raw in
    let cut = without_push raw b in
    let end = returned_push raw b in
    elim (cases_Bool (eqb b 13)) [
      | inl t ↦ cond-true (eqb b 13) _ _ t ∙ same_line _ _ _ _ (now ∙ ap scan_of (sym (cut ∙ cond-true (eqb b 13) raw (raw ++ b ∷ []) t))) (sym (end ∙ t))
      | inr f ↦ cond-false (eqb b 13) _ _ f ∙ same_line _ _ _ _ (ap (λ s. scan_next s b) now ∙ scan_push raw b ∙ ap scan_of (sym (cut ∙ cond-false (eqb b 13) raw (raw ++ b ∷ []) f))) (sym (end ∙ f))
    ]

-- what the parts are
pub one_part : (ps : Parts) → count_to_four ps ≡ 1 → single_shape (part_at ps 0) ≡ shape_of ps
one_part [] h = absurd (omega (arith, h))
one_part (p ∷ []) h = refl
one_part (p ∷ q ∷ []) h = absurd (omega (arith, h))
one_part (p ∷ q ∷ r ∷ []) h = absurd (omega (arith, h))
one_part (p ∷ q ∷ r ∷ s ∷ ps) h = absurd (omega (arith, h))

pub two_parts : (ps : Parts) → (count_to_four ps ≡ 2) ⊎ (count_to_four ps ≡ 3) → assignment_shape (numeral (part_at ps 0)) (part_at ps 1) ≡ shape_of ps
two_parts [] h = absurd (elim h [ inl e ↦ omega (arith, e) | inr e ↦ omega (arith, e) ])
two_parts (p ∷ []) h = absurd (elim h [ inl e ↦ omega (arith, e) | inr e ↦ omega (arith, e) ])
two_parts (p ∷ q ∷ []) h = refl
two_parts (p ∷ q ∷ r ∷ []) h = refl
two_parts (p ∷ q ∷ r ∷ s ∷ ps) h = absurd (elim h [ inl e ↦ omega (arith, e) | inr e ↦ omega (arith, e) ])

pub other_parts : (ps : Parts) → count_to_four ps ≢ 1 → count_to_four ps ≢ 2 → count_to_four ps ≢ 3 → None ≡ shape_of ps
other_parts [] e f g = refl
other_parts (p ∷ []) e f g = absurd (e refl)
other_parts (p ∷ q ∷ []) e f g = absurd (f refl)
other_parts (p ∷ q ∷ r ∷ []) e f g = absurd (g refl)
other_parts (p ∷ q ∷ r ∷ s ∷ ps) e f g = refl

pub no_parts : (ps : Parts) → count_to_four ps ≡ 0 → true ≡ is_passed ps
no_parts [] h = refl
no_parts (p ∷ []) h = absurd (omega (arith, h))
no_parts (p ∷ q ∷ []) h = absurd (omega (arith, h))
no_parts (p ∷ q ∷ r ∷ []) h = absurd (omega (arith, h))
no_parts (p ∷ q ∷ r ∷ s ∷ ps) h = absurd (omega (arith, h))

pub parts_passed : (ps : Parts) → count_to_four ps ≢ 0 → is_comment (first_of (part_at ps 0)) ≡ is_passed ps
parts_passed [] h = absurd (h refl)
parts_passed (p ∷ ps) h = comment_is p ps
