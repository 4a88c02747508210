-- A smaller list of lines reaches each bad line in as many frames as the lines that it was made of.
use Rattle.std.proofs.Common.{◌↔◌, ◌∙◌, ℕ, List, [], ◌∷◌, sym}
use Rattle.word_core.specs.Words.{BitVector}
use Rattle.btor_tree.specs.declared.lines.Line.{Line}
use Rattle.btor_tree.specs.Fits.{IsWellFormed}
use Rattle.btor_tree.specs.Frame.{IsBad}
use Rattle.btor_simplify.specs.Keeping.{IsSmallerList}
use Rattle.btor_simplify.specs.Kept.{AreSameLines}
use Rattle.btor_simplify.proofs.RunsBack.{AllAlike, all_sized, bad_alike, constraints_from, constraints_to, path_alike, run_back}
use Rattle.moxi_layout.specs.LayoutLaws.{AtLast, HasFrames}

module _ (old new : List Line) (place : ℕ → ℕ) (same : AreSameLines old new place) (wo : IsWellFormed old) (wn : IsWellFormed new) (j : ℕ) where
  last_to : (rows images : List (List BitVector)) → AllAlike old new place rows images → AtLast (λ row. IsBad old row j) rows → AtLast (λ row. IsBad new row j) images
  last_to [] images a h = absurd h
  last_to (row ∷ rows) [] a h = absurd a
  last_to (row ∷ []) (image ∷ []) a h = (bad_alike old new place same wo wn j row image a.0).0 h
  last_to (row ∷ []) (image ∷ next ∷ images) a h = absurd a.1
  last_to (row ∷ other ∷ rows) (image ∷ []) a h = absurd a.1
  last_to (row ∷ other ∷ rows) (image ∷ next ∷ images) a h = last_to (other ∷ rows) (next ∷ images) a.1 h

  last_from : (rows images : List (List BitVector)) → AllAlike old new place rows images → AtLast (λ row. IsBad new row j) images → AtLast (λ row. IsBad old row j) rows
  last_from rows [] a h = absurd h
  last_from [] (image ∷ images) a h = absurd a
  last_from (row ∷ []) (image ∷ []) a h = (bad_alike old new place same wo wn j row image a.0).1 h
  last_from (row ∷ []) (image ∷ next ∷ images) a h = absurd a.1
  last_from (row ∷ other ∷ rows) (image ∷ []) a h = absurd a.1
  last_from (row ∷ other ∷ rows) (image ∷ next ∷ images) a h = last_from (other ∷ rows) (next ∷ images) a.1 h

frames_to : (old new : List Line) → IsWellFormed old → IsSmallerList old new → (j k : ℕ) → HasFrames old j k → HasFrames new j k
frames_to old new wo keeps j k h =
    let place = keeps.runs.0 in
    let same : AreSameLines old new place = keeps.runs.1 in
    let r = keeps.runs.2 h.0 h.1.frames.0 in
    let a = path_alike old new place h.0 r.0 h.1.frames.0 r.2 in (
      r.0,
      record {
        sized = sym (all_sized old new place h.0 r.0 a) ∙ h.1.sized;
        frames = (r.1, constraints_to old new place same wo keeps.well_formed h.0 r.0 a h.1.frames.1);
        bad = last_to old new place same wo keeps.well_formed j h.0 r.0 a h.1.bad;
      },
    )

frames_from : (old new : List Line) → IsWellFormed old → IsSmallerList old new → (j k : ℕ) → HasFrames new j k → HasFrames old j k
frames_from old new wo keeps j k h =
    let place = keeps.words.0 in
    let same : AreSameLines old new place = keeps.words.1 in
    let r = run_back old new place same wo keeps.well_formed keeps.words.2 h.0 h.1.frames.0 in (
      r.0,
      record {
        sized = all_sized old new place r.0 h.0 r.2 ∙ h.1.sized;
        frames = (r.1, constraints_from old new place same wo keeps.well_formed r.0 h.0 r.2 h.1.frames.1);
        bad = last_from old new place same wo keeps.well_formed j r.0 h.0 r.2 h.1.bad;
      },
    )

pub frames_kept : (old new : List Line) → IsWellFormed old → IsSmallerList old new → (j k : ℕ) → HasFrames old j k ↔ HasFrames new j k
frames_kept old new wo keeps j k = (frames_to old new wo keeps j k, frames_from old new wo keeps j k)
