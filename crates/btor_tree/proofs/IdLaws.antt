-- Each id is found at its one place.
use Rattle.std.proofs.Common.{◌≡◌, ℕ, zero, suc, ◌<◌, List, [], ◌∷◌, ◌++◌, length, get_or, Some, option_map, refl, sym, ap, ◌∙◌, subst, arith, inl, inr}
use Rattle.std.specs.Prelude.{slice_get}
use Rattle.std.proofs.lemmas.Bool.{eq-eqb, ne_eqb, cases_lt}
use Rattle.std.proofs.lemmas.Option.{slice_get_past}
use Rattle.std.proofs.lemmas.List.{length-map}
use Rattle.btor_tree.specs.declared.lines.Line.{Line}
use Rattle.btor_tree.specs.Fits.{IsWellFormed}
use Rattle.btor_tree.specs.Parts.{cap}
use Rattle.btor_tree.specs.Resolving.{line_ids, place_in}
use Rattle.btor_tree.specs.Printing.{id_of, id_at}
use Rattle.btor_tree.proofs.Grows.{slice_get_front, well_formed_front, ids_rise}

-- the line at a place
pub line_there : (lines : List Line) (j : ℕ) → j < length lines → (l : Line) × (slice_get lines j ≡ Some l) × (get_or (line_ids lines) j 0 ≡ l.id)
line_there [] j lt = absurd (omega arith)
line_there (l ∷ ls) zero lt = (l, refl, refl)
line_there (l ∷ ls) (suc j) lt = line_there ls j (omega arith)

pub place_found : (xs : List ℕ) (n i : ℕ) → i < length xs → get_or xs i 0 ≡ n → ((k : ℕ) → k < i → get_or xs k 0 < n) → place_in n xs ≡ Some i
place_found [] n i lt e below = absurd (omega arith)
place_found (x ∷ xs) n zero lt e below = rw (eq-eqb x n e) refl
place_found (x ∷ xs) n (suc i) lt e below =
    rw (ne_eqb x n (λ same. omega (arith, below 0 (omega arith)))) (ap (option_map suc) (place_found xs n i (omega arith) e (λ k l. below (suc k) (omega arith))))

-- The lines before, and the ids of them that the whole list gives.
pub record Knows (before lines : List Line) : Type 0 where
  pub well : IsWellFormed before
  pub same : (k : ℕ) → k < length before → id_at lines k ≡ get_or (line_ids before) k 0

pub place_again : (before lines : List Line) → Knows before lines → (k : ℕ) → k < length before → place_in (id_at lines k) (line_ids before) ≡ Some k
place_again before lines h k lt =
    let there = line_there before k lt in
    place_found (line_ids before) (id_at lines k) k (omega (arith, length-map before (λ (l : Line). l.id))) (sym (h.same k lt)) (λ i less.
    let front = line_there before i (omega arith) in
    omega (arith, h.same k lt, front.2, there.2, ids_rise before i k front.0 there.0 h.well front.1 there.1 less))

pub small_id : (lines : List Line) → IsWellFormed lines → (k : ℕ) → id_at lines k < cap
small_id lines w k =
    elim (cases_lt k (length lines)) [
      | inl lt ↦ let there = line_there lines k lt in omega (arith, ap id_of there.1, (w.by_line k there.0 there.1).small)
      | inr past ↦ omega (arith, ap id_of (slice_get_past lines k past))
    ]

pub get_end : (xs : List Line) (y : Line) (ys : List Line) → slice_get (xs ++ y ∷ ys) (length xs) ≡ Some y
get_end [] y ys = refl
get_end (x ∷ xs) y ys = get_end xs y ys

pub front_known : (before more lines : List Line) → before ++ more ≡ lines → IsWellFormed lines → Knows before lines
front_known before more lines e w = record {
  well = well_formed_front before more (subst IsWellFormed (sym e) w);
  same = λ k lt.
      let there = line_there before k lt in
      ap (λ x. id_of (slice_get x k)) (sym e) ∙ ap id_of (slice_get_front before more k there.0 there.1) ∙ sym there.2;
}
