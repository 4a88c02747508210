-- The rows of a path by their number.
use Rattle.std.proofs.Common.{◌≡◌, ℕ, zero, suc, ◌+◌, ◌<◌, ◌≤◌, List, [], ◌∷◌, length, refl, ap, subst, arith}
use Rattle.std.specs.Prelude.{slice_index_or}
use Rattle.std.specs.List.{AllByRecursion, AllZip}
use Rattle.word_core.specs.Words.{BitVector}
use Rattle.btor_tree.specs.declared.lines.Line.{Line}
use Rattle.btor_tree.specs.Frame.{Follow, InitsHold, IsFrame, IsPath, NextsHold}
use Rattle.moxi_layout.specs.LayoutLaws.{AtLast}

abbrev pub row_at : List (List BitVector) → ℕ → List BitVector
row_at rows j = slice_index_or rows j []

-- the frames of a path of k + 1 rows
pub record PathRows (lines : List Line) (k : ℕ) (row : ℕ → List BitVector) : Type 0 where
  pub frame : (j : ℕ) → j ≤ k → IsFrame lines (row j)
  pub inits : InitsHold lines (row 0)
  pub nexts : (j : ℕ) → j < k → NextsHold lines (row j) (row (suc j))

follow_frame : (lines : List Line) (row : List BitVector) (rows : List (List BitVector)) (j : ℕ) → Follow lines row rows → j < length rows → IsFrame lines (row_at rows j)
follow_frame lines row [] j f h = absurd (omega (arith, h))
follow_frame lines row (next ∷ rest) zero f h = f.0
follow_frame lines row (next ∷ rest) (suc j) f h = follow_frame lines next rest j f.2 (omega (arith, h))

follow_nexts : (lines : List Line) (row : List BitVector) (rows : List (List BitVector)) (j : ℕ) → Follow lines row rows → j < length rows → NextsHold lines (row_at (row ∷ rows) j) (row_at rows j)
follow_nexts lines row [] j f h = absurd (omega (arith, h))
follow_nexts lines row (next ∷ rest) zero f h = f.1
follow_nexts lines row (next ∷ rest) (suc j) f h = follow_nexts lines next rest j f.2 (omega (arith, h))

first_frame : (lines : List Line) (row : List BitVector) (rest : List (List BitVector)) (j : ℕ) → IsFrame lines row → Follow lines row rest → j < suc (length rest) → IsFrame lines (row_at (row ∷ rest) j)
first_frame lines row rest zero h f l = h
first_frame lines row rest (suc j) h f l = follow_frame lines row rest j f (omega (arith, l))

pub path_rows : (lines : List Line) (rows : List (List BitVector)) (k : ℕ) → IsPath lines rows → length rows ≡ k + 1 → PathRows lines k (row_at rows)
path_rows lines [] k p e = absurd p
path_rows lines (row ∷ rest) k p e =
    record {
      frame = λ j h. first_frame lines row rest j p.0 p.2 (omega (arith, e, h));
      inits = p.1;
      nexts = λ j h. follow_nexts lines row rest j p.2 (omega (arith, e, h));
    }

pub rows_get : (P : List BitVector → Type 0) (rows : List (List BitVector)) (j : ℕ) → AllByRecursion P rows → j < length rows → P (row_at rows j)
rows_get P [] j a h = absurd (omega (arith, h))
rows_get P (row ∷ rows) zero a h = a.0
rows_get P (row ∷ rows) (suc j) a h = rows_get P rows j a.1 (omega (arith, h))

pub rows_all : (P : List BitVector → Type 0) (rows : List (List BitVector)) → ((j : ℕ) → j < length rows → P (row_at rows j)) → AllByRecursion P rows
rows_all P [] g = tt
rows_all P (row ∷ rows) g = (g 0 (omega arith), rows_all P rows (λ j h. g (suc j) (omega (arith, h))))

pub last_get : (P : List BitVector → Type 0) (rows : List (List BitVector)) (k : ℕ) → length rows ≡ k + 1 → AtLast P rows → P (row_at rows k)
last_get P [] k e a = absurd a
last_get P (row ∷ []) zero e a = a
last_get P (row ∷ []) (suc k) e a = absurd (omega (arith, e))
last_get P (row ∷ next ∷ rest) zero e a = absurd (omega (arith, e))
last_get P (row ∷ next ∷ rest) (suc k) e a = last_get P (next ∷ rest) k (omega (arith, e)) a

pub get_last : (P : List BitVector → Type 0) (rows : List (List BitVector)) (k : ℕ) → length rows ≡ k + 1 → P (row_at rows k) → AtLast P rows
get_last P [] k e a = absurd (omega (arith, e))
get_last P (row ∷ []) zero e a = a
get_last P (row ∷ []) (suc k) e a = absurd (omega (arith, e))
get_last P (row ∷ next ∷ rest) zero e a = absurd (omega (arith, e))
get_last P (row ∷ next ∷ rest) (suc k) e a = get_last P (next ∷ rest) k (omega (arith, e)) a

-- ---- what is handed in step by step

-- what n steps from step i on have
abbrev pub from_step : {X : Type 0} → (ℕ → X) → ℕ → ℕ → List X
from_step g i zero = []
from_step g i (suc n) = g i ∷ from_step g (suc i) n

pub all_steps_from : {X : Type 0} (P : X → Type 0) (g : ℕ → X) (i n : ℕ) → ((j : ℕ) → i ≤ j → j < i + n → P (g j)) → AllByRecursion P (from_step g i n)
all_steps_from P g i zero h = tt
all_steps_from P g i (suc n) h = (h i (omega arith) (omega arith), all_steps_from P g (suc i) n (λ j a b. h j (omega (arith, a)) (omega (arith, b))))

pub zip_long : {X : Type 0} (R : List BitVector → X → Type 0) (rows : List (List BitVector)) (g : ℕ → X) (i n : ℕ) → AllZip R rows (from_step g i n) → length rows ≡ n
zip_long R [] g i zero z = refl
zip_long R [] g i (suc n) z = absurd z
zip_long R (row ∷ rows) g i zero z = absurd z
zip_long R (row ∷ rows) g i (suc n) z = ap suc (zip_long R rows g (suc i) n z.1)

pub zip_get : {X : Type 0} (R : List BitVector → X → Type 0) (rows : List (List BitVector)) (g : ℕ → X) (i n j : ℕ) → AllZip R rows (from_step g i n) → j < n → R (row_at rows j) (g (i + j))
zip_get R [] g i zero j z h = absurd (omega (arith, h))
zip_get R [] g i (suc n) j z h = absurd z
zip_get R (row ∷ rows) g i zero j z h = absurd z
zip_get R (row ∷ rows) g i (suc n) zero z h = let e : i ≡ i + 0 = omega arith in subst (λ m. R row (g m)) e z.0
zip_get R (row ∷ rows) g i (suc n) (suc j) z h =
    let e : suc i + j ≡ i + suc j = omega arith in
    subst (λ m. R (row_at rows j) (g m)) e (zip_get R rows g (suc i) n j z.1 (omega (arith, h)))
