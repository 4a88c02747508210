-- Lists of lines that grow at their end.
use Rattle.std.proofs.Common.{◌≡◌, ℕ, zero, suc, ◌+◌, Bool, true, false, cond, take, ◌<◌, ◌≤◌, List, [], ◌∷◌, ◌++◌, length, get_or, Some, refl, sym, ap, ◌∙◌, subst, arith, inl, inr, ◌⊎◌}
use Rattle.std.specs.Prelude.{slice_get}
use Rattle.std.proofs.lemmas.Bool.{cases_lt}
use Rattle.std.proofs.lemmas.Option.{same_Some, none-some, slice_get-get_or}
use Rattle.std.proofs.lemmas.List.{take-append-le, take_all, length-take}
use Rattle.btor_tree.specs.declared.lines.Line.{Line}
use Rattle.btor_tree.specs.declared.lines.LineOp.{LineOp}
use Rattle.word_core.specs.Words.{BitVector}
use Rattle.btor_tree.specs.Fits.{Fits, IsWellFormed, last_id, count_of, greatest_id}
use Rattle.btor_tree.specs.Frame.{Meets, Equation, word_at}

-- an element of a list with one more at its end
pub push_cases : {X : Type 0} (xs : List X) (y : X) (i : ℕ) (l : X) → slice_get (xs ++ y ∷ []) i ≡ Some l → ((i < length xs) × (slice_get xs i ≡ Some l)) ⊎ ((i ≡ length xs) × (y ≡ l))
push_cases [] y zero l h = inr (refl, same_Some y l h)
push_cases [] y (suc i) l h = absurd (none-some l h)
push_cases (x ∷ xs) y zero l h = inl (omega arith, h)
push_cases (x ∷ xs) y (suc i) l h =
    elim (push_cases xs y i l h) [ inl w ↦ inl (omega (arith, w.0), w.1) | inr w ↦ inr (ap suc w.0, w.1) ]

pub slice_get_front : {X : Type 0} (xs ys : List X) (i : ℕ) (l : X) → slice_get xs i ≡ Some l → slice_get (xs ++ ys) i ≡ Some l
slice_get_front [] ys i l h = absurd (none-some l h)
slice_get_front (x ∷ xs) ys zero l h = h
slice_get_front (x ∷ xs) ys (suc i) l h = slice_get_front xs ys i l h

pub slice_get_end : {X : Type 0} (xs : List X) (y : X) → slice_get (xs ++ y ∷ []) (length xs) ≡ Some y
slice_get_end [] y = refl
slice_get_end (x ∷ xs) y = slice_get_end xs y

pub slice_get_inside : {X : Type 0} (xs : List X) (i : ℕ) (l : X) → slice_get xs i ≡ Some l → i < length xs
slice_get_inside [] i l h = absurd (none-some l h)
slice_get_inside (x ∷ xs) zero l h = omega arith
slice_get_inside (x ∷ xs) (suc i) l h = omega (arith, slice_get_inside xs i l h)

pub inside_get : {X : Type 0} (xs : List X) (i : ℕ) → i < length xs → (x : X) × (slice_get xs i ≡ Some x)
inside_get [] i h = absurd (omega (arith, h))
inside_get (x ∷ xs) zero h = (x, refl)
inside_get (x ∷ xs) (suc i) h = inside_get xs i (omega arith)

pub take_push : {X : Type 0} (xs : List X) (n : ℕ) (x : X) → slice_get xs n ≡ Some x → take (suc n) xs ≡ take n xs ++ x ∷ []
take_push [] n x h = absurd (none-some x h)
take_push (y ∷ xs) zero x h = ap (λ z. z ∷ []) (same_Some y x h)
take_push (y ∷ xs) (suc n) x h = ap (λ zs. y ∷ zs) (take_push xs n x h)

pub last_push : (lines : List Line) (line : Line) → last_id (lines ++ line ∷ []) ≡ line.id
last_push [] line = refl
last_push (l ∷ []) line = refl
last_push (l ∷ m ∷ ls) line = last_push (m ∷ ls) line

pub well_formed_push : (lines : List Line) (line : Line) → IsWellFormed lines → Fits lines line → IsWellFormed (lines ++ line ∷ [])
well_formed_push lines line w f =
    record {
      by_line = λ i l h. elim (push_cases lines line i l h) [
        | inl a ↦ let le : i ≤ length lines = omega (arith, a.0) in subst (λ b. Fits b l) (sym (take-append-le i lines (line ∷ []) le)) (w.by_line i l a.1)
        | inr a ↦ let le : i ≤ length lines = omega (arith, a.0) in
            subst (λ b. Fits b l) (sym (take-append-le i lines (line ∷ []) le ∙ take_all i lines (omega (arith, a.0)))) (subst (λ x. Fits lines x) a.1 f)
      ];
    }

-- what meets the equations of all lines meets those of the first ones
pub meets_front : (lines more : List Line) (row : List BitVector) → Meets (lines ++ more) row → Meets lines row
meets_front lines more row m =
    record {
      by_line = λ i l h.
          let le : i ≤ length lines = omega (arith, slice_get_inside lines i l h) in
          subst (λ b. Equation b row l.sort l.op l.args (word_at row i)) (take-append-le i lines more le) (m.by_line i l (slice_get_front lines more i l h));
    }

pub well_formed_front : (lines more : List Line) → IsWellFormed (lines ++ more) → IsWellFormed lines
well_formed_front lines more w =
    record {
      by_line = λ i l h.
          let le : i ≤ length lines = omega (arith, slice_get_inside lines i l h) in
          subst (λ b. Fits b l) (take-append-le i lines more le) (w.by_line i l (slice_get_front lines more i l h));
    }

-- ids rise from 1, so that there are no more lines than the last id says
ids_upto : (lines : List Line) (n : ℕ) → IsWellFormed lines → n ≤ length lines → (n ≤ last_id (take n lines)) × (last_id (take n lines) ≤ greatest_id)
ids_upto lines zero w h = (omega arith, omega arith)
ids_upto lines (suc n) w h =
    let here = inside_get lines n (omega arith) in
    let l = here.0 in
    let before = ids_upto lines n w (omega arith) in
    let fits = w.by_line n l here.1 in
    let e : last_id (take (suc n) lines) ≡ l.id = ap last_id (take_push lines n l here.1) ∙ last_push (take n lines) l in
    (omega (arith, before.0, fits.rises, e), omega (arith, fits.small, e))

pub lines_short : (lines : List Line) → IsWellFormed lines → length lines ≤ greatest_id
lines_short lines w =
    let u = ids_upto lines (length lines) w (omega arith) in
    omega (arith, u.0, u.1)

-- a line's id is no more than the last one's, and ids rise with places
id_upto : (lines : List Line) (i j : ℕ) (l : Line) → IsWellFormed lines → slice_get lines i ≡ Some l → i < j → j ≤ length lines → l.id ≤ last_id (take j lines)
id_upto lines i zero l w h lt le = absurd (omega (arith, lt))
id_upto lines i (suc j) l w h lt le =
    let here = inside_get lines j (omega arith) in
    let e : last_id (take (suc j) lines) ≡ here.0.id = ap last_id (take_push lines j here.0 here.1) ∙ last_push (take j lines) here.0 in
    elim (cases_lt i j) [
      | inl less ↦ omega (arith, id_upto lines i j l w h less (omega arith), (w.by_line j here.0 here.1).rises, e)
      | inr most ↦
          let same : i ≡ j = omega arith in
          let one : l ≡ here.0 = same_Some l here.0 (sym h ∙ ap (slice_get lines) same ∙ here.1) in
          omega (arith, e, ap (λ (k : Line). k.id) one)
    ]

pub ids_rise : (lines : List Line) (i j : ℕ) (l m : Line) → IsWellFormed lines → slice_get lines i ≡ Some l → slice_get lines j ≡ Some m → i < j → l.id < m.id
ids_rise lines i j l m w h g lt =
    let inside = slice_get_inside lines j m g in
    omega (arith, id_upto lines i j l w h lt (omega (arith, inside)), (w.by_line j m g).rises)

pub count_push : (kind : LineOp → Bool) (lines : List Line) (line : Line) → count_of kind (lines ++ line ∷ []) ≡ count_of kind lines + cond (kind line.op) 1 0
count_push kind [] line = omega arith
count_push kind (l ∷ ls) line = omega (arith, count_push kind ls line)

count_next : (kind : LineOp → Bool) (lines : List Line) (i : ℕ) (l : Line) → slice_get lines i ≡ Some l → count_of kind (take (suc i) lines) ≡ count_of kind (take i lines) + cond (kind l.op) 1 0
count_next kind lines i l h = ap (count_of kind) (take_push lines i l h) ∙ count_push kind (take i lines) l

-- what a loop over a list holds at its index
pub item_at : {X : Type 0} (xs ys : List X) (i : ℕ) (x : X) → ys ≡ xs → x ≡ get_or ys i x → i < length ys → slice_get xs i ≡ Some x
item_at xs ys i x e h lt = ap (λ zs. slice_get zs i) (sym e) ∙ slice_get-get_or ys i x lt ∙ ap Some (sym h)

pub count_step : (kind : LineOp → Bool) (lines : List Line) (i n m : ℕ) (l : Line) → slice_get lines i ≡ Some l → n ≡ count_of kind (take i lines) → m ≡ cond (kind l.op) 1 0 → n + m ≡ count_of kind (take (i + 1) lines)
count_step kind lines i n m l h a b =
    let next : i + 1 ≡ suc i = omega arith in
    let e : count_of kind (take (i + 1) lines) ≡ count_of kind (take (suc i) lines) = ap (λ k. count_of kind (take k lines)) next in
    omega (arith, a, b, e, count_next kind lines i l h)

one_at_most : (b : Bool) → cond b 1 0 ≤ 1
one_at_most true = omega arith
one_at_most false = omega arith

pub count_short : (kind : LineOp → Bool) (lines : List Line) → count_of kind lines ≤ length lines
count_short kind [] = omega arith
count_short kind (l ∷ ls) = omega (arith, count_short kind ls, one_at_most (kind l.op))

pub counts_small : (kind : LineOp → Bool) (lines : List Line) → IsWellFormed lines → count_of kind lines ≤ greatest_id
counts_small kind lines w = omega (arith, count_short kind lines, lines_short lines w)

-- so many lines of a kind are few, also among the first ones
pub count_few : (kind : LineOp → Bool) (lines : List Line) (i n m : ℕ) (l : Line) → IsWellFormed lines → slice_get lines i ≡ Some l → n ≡ count_of kind (take i lines) → m ≡ cond (kind l.op) 1 0 → n + m ≤ greatest_id
count_few kind lines i n m l w h a b =
    omega (arith, count_step kind lines i n m l h a b, count_short kind (take (i + 1) lines), length-take (i + 1) lines, lines_short lines w)

pub empty_well_formed : IsWellFormed []
empty_well_formed = record { by_line = λ i l h. absurd (none-some l h) }
