-- Frames of two lists with the same words.
use Rattle.std.specs.Prelude.{◌≡◌, ℕ, false, List, [], ◌∷◌, map, Some, slice_get}
use Rattle.word_core.specs.Words.{BitVector}
use Rattle.btor_tree.specs.declared.lines.Line.{Line}
use Rattle.btor_tree.specs.Frame.{word_at, operand, IsFrame, IsPath}
use Rattle.btor_tree.specs.Sharing.{is_shared}
use Rattle.btor_simplify.specs.Kept.{AreSameLines}

-- the frame of the new lines has the words of inputs and states, and each argument of an init, next, bad, constraint or output line
-- has the word that it had
pub record HasSameWords (old new : List Line) (place : ℕ → ℕ) (row image : List BitVector) : Type 0 where
  pub frame : IsFrame new image
  pub words : (i : ℕ) (l : Line) → slice_get old i ≡ Some l → is_shared l.op ≡ false → word_at image (place i) ≡ word_at row i
  pub args : (i : ℕ) (l m : Line) → slice_get old i ≡ Some l → is_shared l.op ≡ false → slice_get new (place i) ≡ Some m → map (operand image) m.args ≡ map (operand row) l.args

-- each frame of the old lines is one of the new lines, with the same words where they are read from outside
abbrev pub KeepsWords : List Line → List Line → Type 0
KeepsWords old new =
    (place : ℕ → ℕ) × AreSameLines old new place × ((row : List BitVector) → IsFrame old row → (image : List BitVector) × HasSameWords old new place row image)

-- frame by frame
abbrev pub HaveSameWords : List Line → List Line → (ℕ → ℕ) → List (List BitVector) → List (List BitVector) → Type 0
HaveSameWords old new place [] [] = Unit {0}
HaveSameWords old new place (row ∷ rows) (image ∷ more) = HasSameWords old new place row image × HaveSameWords old new place rows more
HaveSameWords old new place rows more = ⊥

-- each run of frames of the old lines is one of the new lines, frame by frame
abbrev pub KeepsRuns : List Line → List Line → Type 0
KeepsRuns old new =
    (place : ℕ → ℕ) × AreSameLines old new place × ((rows : List (List BitVector)) → IsPath old rows → (more : List (List BitVector)) × IsPath new more × HaveSameWords old new place rows more)
