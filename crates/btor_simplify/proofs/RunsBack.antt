-- Runs of frames of the new lines are those of the old lines: the converse of KeepsRuns.
use Rattle.std.proofs.Common.{◌≡◌, ◌↔◌, ℕ, suc, Bool, true, false, List, [], ◌∷◌, length, None, refl, ap, subst, ◌∙◌}
use Rattle.std.specs.List.{AllByRecursion}
use Rattle.word_core.specs.Words.{BitVector}
use Rattle.btor_tree.specs.declared.lines.Line.{Line}
use Rattle.btor_tree.specs.declared.lines.LineOp.TheVariants as op
use Rattle.btor_tree.specs.Fits.{IsWellFormed, state_value}
use Rattle.btor_tree.specs.Frame.{word_at, IsFrame, Follow, IsPath, ConstraintsHold, IsBad}
use Rattle.btor_tree.specs.Sharing.{is_shared}
use Rattle.btor_frames.specs.Judged.{Statement}
use Rattle.btor_frames.specs.Steps.{value_kind, ValuesHold}
use Rattle.btor_frames.proofs.Unique.{same_row}
use Rattle.btor_simplify.specs.Kept.{AreSameLines}
use Rattle.btor_simplify.specs.Words.{HasSameWords, HaveSameWords}
use Rattle.btor_simplify.proofs.WitnessesPlaces.{line_from}
use Rattle.btor_simplify.proofs.GivenValues.{AreLast, AreAlike, none_from, values_to}
use Rattle.btor_simplify.proofs.WitnessesFrames.{alike, made_frame, free_fits, last_frame}

-- the frames of two runs have the same words, frame by frame
abbrev pub AllAlike : (old new : List Line) → (ℕ → ℕ) → List (List BitVector) → List (List BitVector) → Type 0
AllAlike old new place [] [] = Unit {0}
AllAlike old new place (row ∷ rows) (image ∷ images) = AreAlike old new place row image × AllAlike old new place rows images
AllAlike old new place rows images = ⊥

-- they are as many
pub all_sized : (old new : List Line) (place : ℕ → ℕ) (rows images : List (List BitVector)) → AllAlike old new place rows images → length rows ≡ length images
all_sized old new place [] [] a = refl
all_sized old new place (row ∷ rows) (image ∷ images) a = ap (λ n. suc n) (all_sized old new place rows images a.1)
all_sized old new place rows images a = absurd a

-- frames with the same words are alike
follow_alike : (old new : List Line) (place : ℕ → ℕ) (row : List BitVector) (rows images : List (List BitVector)) → Follow old row rows → HaveSameWords old new place rows images → AllAlike old new place rows images
follow_alike old new place row [] [] h w = tt
follow_alike old new place row (next ∷ rows) (image ∷ images) h w = ((h.0, w.0), follow_alike old new place next rows images h.2 w.1)
follow_alike old new place row rows images h w = absurd w

pub path_alike : (old new : List Line) (place : ℕ → ℕ) (rows images : List (List BitVector)) → IsPath old rows → HaveSameWords old new place rows images → AllAlike old new place rows images
path_alike old new place [] images h w = absurd h
path_alike old new place (row ∷ rows) [] h w = absurd w
path_alike old new place (row ∷ rows) (image ∷ images) h w = ((h.0, w.0), follow_alike old new place row rows images h.2 w.1)

nothing_stated : Statement
nothing_stated = record { states = λ n. None; inputs = λ n. None }

module _ (old new : List Line) (place : ℕ → ℕ) (same : AreSameLines old new place) (wo : IsWellFormed old) (wn : IsWellFormed new) where
  -- the constraints hold in one run of frames where they hold in the other
  pub constraints_to : (rows images : List (List BitVector)) → AllAlike old new place rows images → AllByRecursion (ConstraintsHold old) rows → AllByRecursion (ConstraintsHold new) images
  constraints_to [] [] a h = tt
  constraints_to (row ∷ rows) (image ∷ images) a h =
      ((alike old new place same wo wn 0 true nothing_stated row image a.0).constraints.0 h.0, constraints_to rows images a.1 h.1)
  constraints_to rows images a h = absurd a

  pub constraints_from : (rows images : List (List BitVector)) → AllAlike old new place rows images → AllByRecursion (ConstraintsHold new) images → AllByRecursion (ConstraintsHold old) rows
  constraints_from [] [] a h = tt
  constraints_from (row ∷ rows) (image ∷ images) a h =
      ((alike old new place same wo wn 0 true nothing_stated row image a.0).constraints.1 h.0, constraints_from rows images a.1 h.1)
  constraints_from rows images a h = absurd a

  -- and so does a bad line
  pub bad_alike : (j : ℕ) (row image : List BitVector) → AreAlike old new place row image → IsBad old row j ↔ IsBad new image j
  bad_alike j row image a = (alike old new place same wo wn j true nothing_stated row image a).bad

module _ (old new : List Line) (place : ℕ → ℕ) (same : AreSameLines old new place) (wo : IsWellFormed old) (wn : IsWellFormed new) (image_of : (row : List BitVector) → IsFrame old row → (image : List BitVector) × HasSameWords old new place row image) where
  -- the frame of the old lines with the words of inputs and free states that a frame of the new lines has
  frame_back : (begun : Bool) (last before image : List BitVector) → AreLast (AreAlike old new place) begun last before → IsFrame new image → ValuesHold begun new before image
      → (row : List BitVector) × ValuesHold begun old last row × AreAlike old new place row image
  frame_back begun last before image b frame values =
      let r = made_frame old wo begun last (λ i. word_at image (place i)) (last_frame old new place same wo wn begun last before b) (free_fits old new place same wo wn image frame) in
      let im = image_of r.0 r.1 in
      let one : im.0 ≡ image = same_row new begun before im.0 image wn im.1.frame frame (values_to old new place same wo wn begun last before r.0 im.0 b im.1 r.2) values
      (λ q m at e.
      let f = line_from old new place same q m at (ap is_shared e) in
      let is : f.1.op ≡ op.Input = f.3 ∙ e in
      subst (λ n. word_at im.0 n ≡ word_at image n) f.4 (im.1.words f.0 f.1 f.2 (ap is_shared is) ∙ r.3 f.0 f.1 f.2 is))
      (λ q m at e none.
      let f = line_from old new place same q m at (ap is_shared e) in
      let is : f.1.op ≡ op.State = f.3 ∙ e in
      let free = none_from old new place same wo wn begun f.0 (ap (state_value (value_kind begun) new) f.4 ∙ none) in
      subst (λ n. word_at im.0 n ≡ word_at image n) f.4 (im.1.words f.0 f.1 f.2 (ap is_shared is) ∙ r.4 f.0 f.1 f.2 is free)) in
      (r.0, r.2, (r.1, subst (HasSameWords old new place r.0) one im.1))

  followed_back : (row image : List BitVector) (images : List (List BitVector)) → AreAlike old new place row image → Follow new image images → (rows : List (List BitVector)) × Follow old row rows × AllAlike old new place rows images
  followed_back row image [] b h = ([], tt, tt)
  followed_back row image (next ∷ images) b h =
      let r = frame_back true row image next b h.0 h.1 in
      let s = followed_back r.0 next images r.2 h.2 in
      (r.0 ∷ s.0, (r.2.0, r.1, s.1), (r.2, s.2))

  -- each run of frames of the new lines is one of the old lines
  pub run_back : (images : List (List BitVector)) → IsPath new images → (rows : List (List BitVector)) × IsPath old rows × AllAlike old new place rows images
  run_back [] h = absurd h
  run_back (image ∷ images) h =
      let r = frame_back false [] [] image tt h.0 h.1 in
      let s = followed_back r.0 image images r.2 h.2 in
      (r.0 ∷ s.0, (r.2.0, r.1, s.1), (r.2, s.2))
