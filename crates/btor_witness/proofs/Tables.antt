-- The words that a part states, by their numbers and in rising order.
use Rattle.std.proofs.Common.{◌≡◌, ◌≢◌, ◌+◌, ◌<◌, ℕ, zero, suc, Bool, true, false, cond, eqb, List, [], ◌∷◌, ◌++◌, length, take, get_or, set, Option, Some, None, refl, sym, ap, ◌∙◌, subst, arith, inl, inr, get_or-set_other, get_or-set_same}
use Rattle.std.specs.Option.{option_or}
use Rattle.std.specs.List.{AllByRecursion}
use Rattle.std.proofs.lemmas.Bool.{cases_Bool, eqb-true, eqb-false, cond-true, cond-false}
use Rattle.std.proofs.lemmas.List.{take_more, append_assoc, append-nil}
use Rattle.word_core.specs.Words.{BitVector}
use Rattle.btor_tree.specs.declared.lines.Line.{Line}
use Rattle.btor_tree.specs.declared.lines.LineOp.{LineOp}
use Rattle.btor_tree.specs.Fits.{count_of}
use Rattle.btor_tree.proofs.Grows.{slice_get_inside}
use Rattle.btor_witness.specs.declared.witness.Stated.{Stated}
use Rattle.btor_witness.specs.declared.witness.Frame.{Frame}
use Rattle.btor_witness.specs.Sizes.{widths_of}
use Rattle.btor_witness.specs.Printing.{IsOf, IsPart, IsBelow, value_of, frame_text, frames_text}
use Rattle.btor_witness.proofs.Widths.{widths_in}

-- an element at a place
pub all_at : {X : Type 0} (P : X → Type 0) (xs : List X) (i : ℕ) (x : X) → AllByRecursion P xs → i < length xs → get_or xs i x ≡ x → P x
all_at P [] i x h lt e = absurd (omega (arith, lt))
all_at P (y ∷ xs) zero x h lt e = subst P e h.0
all_at P (y ∷ xs) (suc i) x h lt e = all_at P xs i x h.1 (omega arith) e

-- there are as many widths as lines of the kind
pub length_widths : (lines : List Line) (kind : LineOp → Bool) (ls : List Line) → length (widths_in lines kind ls) ≡ count_of kind ls
length_widths lines kind [] = refl
length_widths lines kind (l ∷ ls) =
    let ih = length_widths lines kind ls in
    elim (cases_Bool (kind l.op)) [ inl t ↦ rw t (omega arith) | inr f ↦ rw f (omega arith) ]

pub all_below : (widths : List ℕ) (count : ℕ) (stated : List Stated) → length widths ≡ count → AllByRecursion (IsOf widths) stated → AllByRecursion (IsBelow count) stated
all_below widths count [] e h = tt
all_below widths count (s ∷ ss) e h = (omega (arith, slice_get_inside widths s.index s.value.width h.0.0), all_below widths count ss e h.1)

pub part_below : (lines : List Line) (kind : LineOp → Bool) (count : ℕ) (stated : List Stated) → count ≡ count_of kind lines → IsPart (widths_of kind lines) stated → AllByRecursion (IsBelow count) stated
part_below lines kind count stated e h = all_below (widths_of kind lines) count stated (length_widths lines kind lines ∙ sym e) h.0

-- one statement more
option_step : (b : Bool) (x y : Option BitVector) (v : BitVector) → option_or (cond b (Some v) x) y ≡ cond b (Some v) (option_or x y)
option_step true x y v = refl
option_step false x y v = refl

pub value_more : (xs : List Stated) (s : Stated) (k : ℕ) → value_of (xs ++ s ∷ []) k ≡ cond (eqb s.index k) (Some s.value) (value_of xs k)
value_more [] s k = refl
value_more (x ∷ xs) s k =
    ap (λ o. option_or o (cond (eqb x.index k) (Some x.value) None)) (value_more xs s k) ∙ option_step (eqb s.index k) (value_of xs k) (cond (eqb x.index k) (Some x.value) None) s.value

pub table_more : (table : List (Option BitVector)) (stated : List Stated) (i : ℕ) (s : Stated) → i < length stated → get_or stated i s ≡ s → s.index < length table
    → ((k : ℕ) → get_or table k None ≡ value_of (take i stated) k) → (k : ℕ) → get_or (set table s.index (Some s.value)) k None ≡ value_of (take (i + 1) stated) k
table_more table stated i s lt at within before k =
    let cut : take (i + 1) stated ≡ take i stated ++ s ∷ [] = take_more stated i s lt ∙ ap (λ x. take i stated ++ x ∷ []) at in
    let more : value_of (take (i + 1) stated) k ≡ cond (eqb s.index k) (Some s.value) (value_of (take i stated) k) = ap (λ x. value_of x k) cut ∙ value_more (take i stated) s k in
    elim (cases_Bool (eqb s.index k)) [
      | inl t ↦
          let e : s.index ≡ k = eqb-true s.index k t in
          let here : get_or (set table s.index (Some s.value)) k None ≡ Some s.value =
          subst (λ n. get_or (set table s.index (Some s.value)) n None ≡ Some s.value) e (get_or-set_same table s.index (Some s.value) None within) in
          here ∙ sym (more ∙ cond-true (eqb s.index k) _ _ t)
      | inr f ↦
          let ne : k ≢ s.index = λ e. eqb-false s.index k f (sym e) in
          get_or-set_other table s.index k (Some s.value) None ne ∙ before k ∙ sym (more ∙ cond-false (eqb s.index k) _ _ f)
    ]

-- one frame more
pub frames_more : (n : ℕ) (fs : List Frame) (f : Frame) → frames_text n (fs ++ f ∷ []) ≡ frames_text n fs ++ frame_text (n + length fs) f
frames_more n [] f = append-nil (frame_text n f) ∙ ap (λ k. frame_text k f) (omega arith)
frames_more n (g ∷ fs) f =
    let e : suc n + length fs ≡ n + suc (length fs) = omega arith in
    ap (λ x. frame_text n g ++ x) (frames_more (suc n) fs f) ∙ sym (append_assoc (frame_text n g) (frames_text (suc n) fs) (frame_text (suc n + length fs) f))
    ∙ ap (λ k. (frame_text n g ++ frames_text (suc n) fs) ++ frame_text k f) e
