-- Frames exist, and are the only ones.
use Rattle.std.proofs.Common.{◌≡◌, ℕ, zero, suc, ◌+◌, ◌-◌, ◌<◌, ◌≤◌, List, [], ◌∷◌, ◌++◌, length, take, drop, Option, Some, None, refl, sym, ap, ◌∙◌, subst, arith, inl, inr}
use Rattle.std.specs.Prelude.{slice_get}
use Rattle.std.proofs.lemmas.Option.{none-some}
use Rattle.std.proofs.lemmas.List.{take-append-drop, length-take, length-take-le, get_or_append_left, get_or_push, take_all, length_push, take-append-le}
use Rattle.word_core.specs.Words.{BitVector}
use Rattle.btor_tree.specs.declared.lines.Line.{Line}
use Rattle.btor_tree.specs.declared.lines.LineOp.{LineOp}
use Rattle.btor_tree.specs.Fits.{AreEarlier, IsWellFormed}
use Rattle.btor_tree.specs.Frame.{GivenFits, nothing, word_at, Equation, Meets, IsFrame}
use Rattle.btor_tree.proofs.Grows.{push_cases, well_formed_front, inside_get, take_push}
use Rattle.btor_tree.proofs.Words.{SameBelow, same_equation, computed, computed_equation}

pub slice_get_take : {X : Type 0} (xs : List X) (n k : ℕ) (x : X) → k < n → slice_get xs k ≡ Some x → slice_get (take n xs) k ≡ Some x
slice_get_take [] n k x h g = absurd (none-some x g)
slice_get_take (y ∷ xs) zero k x h g = absurd (omega (arith, h))
slice_get_take (y ∷ xs) (suc n) zero x h g = g
slice_get_take (y ∷ xs) (suc n) (suc k) x h g = slice_get_take xs n k x (omega arith) g

-- one more line, with the word that its equation gives
pub meets_push : (lines : List Line) (line : Line) (row : List BitVector) (x : BitVector) → IsWellFormed lines → length row ≡ length lines → AreEarlier (length lines) line.args → Meets lines row → Equation lines row line.sort line.op line.args x → Meets (lines ++ line ∷ []) (row ++ x ∷ [])
meets_push lines line row x w sized args m e =
    let stays : (k : ℕ) → k < length row → word_at row k ≡ word_at (row ++ x ∷ []) k =
    λ k h. sym (get_or_append_left row (x ∷ []) nothing k h) in
    record {
      by_line = λ i l h. elim (push_cases lines line i l h) [
        | inl a ↦
            let le : i ≤ length lines = omega (arith, a.0) in
            let before = take i lines in
            let same : SameBelow (length before) row (row ++ x ∷ []) = λ k q. stays k (omega (arith, q, length-take i lines)) in
            let moved = same_equation before row (row ++ x ∷ []) (length before) l.sort l.op l.args (word_at row i) same (w.by_line i l a.1).body.earlier (m.by_line i l a.1) in
            let here = subst (λ y. Equation before (row ++ x ∷ []) l.sort l.op l.args y) (stays i (omega (arith, a.0))) moved in
            subst (λ b. Equation b (row ++ x ∷ []) l.sort l.op l.args (word_at (row ++ x ∷ []) i)) (sym (take-append-le i lines (line ∷ []) le)) here
        | inr a ↦
            let le : i ≤ length lines = omega (arith, a.0) in
            let same : SameBelow (length lines) row (row ++ x ∷ []) = λ k q. stays k (omega arith) in
            let moved = same_equation lines row (row ++ x ∷ []) (length lines) line.sort line.op line.args x same args e in
            let at : word_at (row ++ x ∷ []) i ≡ x = get_or_push row x nothing i (sized ∙ sym a.0) in
            let here = subst (λ y. Equation lines (row ++ x ∷ []) line.sort line.op line.args y) (sym at) moved in
            let line_is = subst (λ k. Equation lines (row ++ x ∷ []) k.sort k.op k.args (word_at (row ++ x ∷ []) i)) a.1 here in
            subst (λ b. Equation b (row ++ x ∷ []) l.sort l.op l.args (word_at (row ++ x ∷ []) i)) (sym (take-append-le i lines (line ∷ []) le ∙ take_all i lines (omega (arith, a.0)))) line_is
      ];
    }

-- what is read at inputs and states: by the line, its place and the words before it
abbrev pub Given : Type 0
Given = LineOp → ℕ → List BitVector → BitVector

abbrev pub word_here : List Line → List BitVector → Option Line → ℕ → Given → BitVector
word_here before row None i given = nothing
word_here before row (Some l) i given = computed before row l.sort l.op l.args (given l.op i row)

-- the first n words
abbrev pub row_upto : List Line → Given → ℕ → List BitVector
row_upto lines given zero = []
row_upto lines given (suc n) =
    row_upto lines given n ++ word_here (take n lines) (row_upto lines given n) (slice_get lines n) n given ∷ []

pub length_row : (lines : List Line) (given : Given) (n : ℕ) → length (row_upto lines given n) ≡ n
length_row lines given zero = refl
length_row lines given (suc n) =
    omega (arith, length_row lines given n, length_push (row_upto lines given n) (word_here (take n lines) (row_upto lines given n) (slice_get lines n) n given))

-- what is given fits, after each frame of the lines before
pub record GivesWords (lines : List Line) (given : Given) : Type 0 where
  pub fits : (i : ℕ) (l : Line) (row : List BitVector) → slice_get lines i ≡ Some l → IsFrame (take i lines) row → GivenFits (take i lines) l.sort l.op (given l.op i row)

pub frame_upto : (lines : List Line) (given : Given) → IsWellFormed lines → GivesWords lines given → (n : ℕ) → n ≤ length lines → IsFrame (take n lines) (row_upto lines given n)
frame_upto lines given w g zero h =
    record { sized = refl; meets = record { by_line = λ i l q. absurd (none-some l q) } }
frame_upto lines given w g (suc n) h =
    let row = row_upto lines given n in
    let had = frame_upto lines given w g n (omega arith) in
    let here = inside_get lines n (omega arith) in
    let l = here.0 in
    let before = take n lines in
    let fits = (w.by_line n l here.1).body in
    let x = computed before row l.sort l.op l.args (given l.op n row) in
    let wb : IsWellFormed before = well_formed_front before (drop n lines) (subst IsWellFormed (sym (take-append-drop n lines)) w) in
    let e = computed_equation before row l.sort l.op l.args (given l.op n row) fits.sorts (g.fits n l row here.1 had) in
    let met = meets_push before l row x wb had.sized fits.earlier had.meets e in
    let same_x : word_here before row (slice_get lines n) n given ≡ x = ap (λ o. word_here before row o n given) here.1 in
    let met2 = subst (λ y. Meets (before ++ l ∷ []) (row ++ y ∷ [])) (sym same_x) met in
    let met3 = subst (λ ls. Meets ls (row_upto lines given (suc n))) (sym (take_push lines n l here.1)) met2 in
    record { sized = length_row lines given (suc n) ∙ sym (length-take-le (suc n) lines h); meets = met3 }

stays_once : (lines : List Line) (given : Given) (n k : ℕ) → k < n → word_at (row_upto lines given (suc n)) k ≡ word_at (row_upto lines given n) k
stays_once lines given n k h =
    get_or_append_left (row_upto lines given n) (word_here (take n lines) (row_upto lines given n) (slice_get lines n) n given ∷ []) nothing k (omega (arith, length_row lines given n))

stays : (lines : List Line) (given : Given) (m n k : ℕ) → k < n → word_at (row_upto lines given (m + n)) k ≡ word_at (row_upto lines given n) k
stays lines given zero n k h = let e : zero + n ≡ n = omega arith in ap (λ a. word_at (row_upto lines given a) k) e
stays lines given (suc m) n k h =
    let e : suc m + n ≡ suc (m + n) = omega arith in
    ap (λ a. word_at (row_upto lines given a) k) e ∙ stays_once lines given (m + n) k (omega arith) ∙ stays lines given m n k h

pub upto_same : (lines : List Line) (given : Given) (n i : ℕ) → i ≤ n → SameBelow i (row_upto lines given i) (row_upto lines given n)
upto_same lines given n i h k q =
    let e : n ≡ (n - i) + i = omega arith in
    sym (ap (λ a. word_at (row_upto lines given a) k) e ∙ stays lines given (n - i) i k q)

-- the word at a place is the one that its line gives
pub word_upto : (lines : List Line) (given : Given) (n i : ℕ) (l : Line) → i < n → slice_get lines i ≡ Some l → word_at (row_upto lines given n) i ≡ computed (take i lines) (row_upto lines given i) l.sort l.op l.args (given l.op i (row_upto lines given i))
word_upto lines given n i l h q =
    sym (upto_same lines given n (suc i) (omega arith) i (omega arith))
    ∙ get_or_push (row_upto lines given i) (word_here (take i lines) (row_upto lines given i) (slice_get lines i) i given) nothing i (length_row lines given i)
    ∙ ap (λ o. word_here (take i lines) (row_upto lines given i) o i given) q
