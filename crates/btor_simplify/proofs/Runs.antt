-- Runs of frames of the new lines.
use Rattle.std.proofs.Common.{ℕ, true, false, List, [], ◌∷◌}
use Rattle.word_core.specs.Words.{BitVector}
use Rattle.btor_tree.specs.declared.lines.Line.{Line}
use Rattle.btor_tree.specs.Fits.{IsWellFormed}
use Rattle.btor_tree.specs.Frame.{IsFrame, Follow, IsPath}
use Rattle.btor_simplify.specs.Kept.{AreSameLines}
use Rattle.btor_simplify.specs.Words.{HasSameWords, HaveSameWords, KeepsWords, KeepsRuns}
use Rattle.btor_simplify.proofs.GivenValues.{AreAlike, values_to}

module _ (old new : List Line) (place : ℕ → ℕ) (same : AreSameLines old new place) (wo : IsWellFormed old) (wn : IsWellFormed new) (image_of : (row : List BitVector) → IsFrame old row → (image : List BitVector) × HasSameWords old new place row image) where
  followed : (row image : List BitVector) (rows : List (List BitVector)) → AreAlike old new place row image → Follow old row rows → (more : List (List BitVector)) × Follow new image more × HaveSameWords old new place rows more
  followed row image [] b h = ([], tt, tt)
  followed row image (next ∷ rows) b h =
      let w = image_of next h.0 in
      let r = followed next w.0 rows (h.0, w.1) h.2 in
      (w.0 ∷ r.0, (w.1.frame, values_to old new place same wo wn true row image next w.0 b w.1 h.1, r.1), (w.1, r.2))

  run : (rows : List (List BitVector)) → IsPath old rows → (more : List (List BitVector)) × IsPath new more × HaveSameWords old new place rows more
  run [] h = absurd h
  run (row ∷ rows) h =
      let w = image_of row h.0 in
      let r = followed row w.0 rows (h.0, w.1) h.2 in
      (w.0 ∷ r.0, (w.1.frame, values_to old new place same wo wn false [] [] row w.0 tt w.1 h.1, r.1), (w.1, r.2))

pub keeps_runs : (old new : List Line) → IsWellFormed old → IsWellFormed new → KeepsWords old new → KeepsRuns old new
keeps_runs old new wo wn k = (k.0, k.1, run old new k.0 k.1 wo wn k.2)
