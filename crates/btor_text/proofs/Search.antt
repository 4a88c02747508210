-- The search for an id among ids that rise.
use Rattle.std.proofs.Common.{◌≡◌, ℕ, suc, ◌+◌, ◌<◌, ◌≤◌, List, [], ◌∷◌, length, get_or, Some, None, option_map, refl, sym, ap, ◌∙◌, arith, inl, inr}
use Rattle.std.specs.Prelude.{slice_get}
use Rattle.std.proofs.lemmas.Bool.{ne_eqb, cases_lt}
use Rattle.std.proofs.lemmas.Option.{same_Some}
use Rattle.std.proofs.lemmas.List.{length-map}
use Rattle.btor_tree.specs.declared.lines.Line.{Line}
use Rattle.btor_tree.specs.Fits.{IsWellFormed}
use Rattle.btor_tree.specs.Resolving.{line_ids, place_in}
use Rattle.btor_tree.proofs.Grows.{ids_rise}
use Rattle.btor_tree.proofs.IdLaws.{line_there, place_found}

-- the id, if it is there, stands from low up to below high
pub record Between (lines : List Line) (id low high : ℕ) : Type 0 where
  pub below : (k : ℕ) → k < low → get_or (line_ids lines) k 0 < id
  pub above : (k : ℕ) → high ≤ k → k < length lines → id < get_or (line_ids lines) k 0

rise : (lines : List Line) (i j : ℕ) → IsWellFormed lines → i < j → j < length lines → get_or (line_ids lines) i 0 < get_or (line_ids lines) j 0
rise lines i j w lt inside =
    let a = line_there lines i (omega arith) in
    let b = line_there lines j inside in
    omega (arith, a.2, b.2, ids_rise lines i j a.0 b.0 w a.1 b.1 lt)

rise_or_same : (lines : List Line) (i j : ℕ) → IsWellFormed lines → i ≤ j → j < length lines → get_or (line_ids lines) i 0 ≤ get_or (line_ids lines) j 0
rise_or_same lines i j w le inside =
    elim (cases_lt i j) [
      | inl lt ↦ omega (arith, rise lines i j w lt inside)
      | inr past ↦ let same : i ≡ j = omega arith in omega (arith, ap (λ k. get_or (line_ids lines) k 0) same)
    ]

pub id_there : (lines : List Line) (i : ℕ) (l : Line) → slice_get lines i ≡ Some l → i < length lines → get_or (line_ids lines) i 0 ≡ l.id
id_there lines i l e inside =
    let a = line_there lines i inside in
    a.2 ∙ ap (λ (k : Line). k.id) (same_Some a.0 l (sym a.1 ∙ e))

pub found_here : (lines : List Line) (i id : ℕ) (l : Line) → IsWellFormed lines → slice_get lines i ≡ Some l → i < length lines → l.id ≡ id → place_in id (line_ids lines) ≡ Some i
found_here lines i id l w e inside same =
    let there = id_there lines i l e inside in
    place_found (line_ids lines) id i (omega (arith, inside, length-map lines (λ (k : Line). k.id))) (there ∙ same) (λ k lt. omega (arith, rise lines k i w lt inside, there, same))

none_found : (xs : List ℕ) (n : ℕ) → ((k : ℕ) → k < length xs → (get_or xs k 0 ≡ n) → ⊥) → place_in n xs ≡ None
none_found [] n h = refl
none_found (x ∷ xs) n h = rw (ne_eqb x n (h 0 (omega arith))) (ap (option_map suc) (none_found xs n (λ k lt. h (suc k) (omega (arith, lt)))))

pub nowhere : (lines : List Line) (id low high : ℕ) → Between lines id low high → high ≤ low → place_in id (line_ids lines) ≡ None
nowhere lines id low high b past =
    none_found (line_ids lines) id (λ k lt same.
    let inside : k < length lines = omega (arith, lt, length-map lines (λ (l : Line). l.id)) in
    elim (cases_lt k low) [
      | inl less ↦ absurd (omega (arith, b.below k less, same))
      | inr more ↦ absurd (omega (arith, b.above k (omega arith) inside, same))
    ])

pub go_up : (lines : List Line) (id low high middle : ℕ) (l : Line) → IsWellFormed lines → Between lines id low high → slice_get lines middle ≡ Some l → middle < length lines → l.id < id → Between lines id (middle + 1) high
go_up lines id low high middle l w b e inside less =
    record {
      below = λ k lt. omega (arith, rise_or_same lines k middle w (omega arith) inside, id_there lines middle l e inside, less);
      above = b.above;
    }

pub go_down : (lines : List Line) (id low high middle : ℕ) (l : Line) → IsWellFormed lines → Between lines id low high → slice_get lines middle ≡ Some l → middle < length lines → id < l.id → Between lines id low middle
go_down lines id low high middle l w b e inside more =
    record {
      below = b.below;
      above = λ k past within. omega (arith, rise_or_same lines middle k w past within, id_there lines middle l e inside, more);
    }
