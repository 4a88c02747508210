-- What a judge holds from frame to frame.
use Rattle.std.specs.Prelude.{◌≡◌, ℕ, suc, ◌≤◌, Bool, List, [], ◌∷◌, length, Option, Some, None, slice_get, if◌then◌else◌}
use Rattle.word_core.specs.Words.{BitVector}
use Rattle.word_core.specs.declared.word.TheConstants.{WIDEST}
use Rattle.btor_tree.specs.declared.lines.Line.{Line}
use Rattle.btor_tree.specs.declared.lines.LineOp.{LineOp}
use Rattle.btor_tree.specs.Fits.{is_state, is_input}
use Rattle.btor_tree.specs.Frame.{word_at}
use Rattle.btor_frames.specs.Held.{FramesFit}
use Rattle.btor_frames.specs.Judged.{stated_or}
use Rattle.btor_witness.specs.declared.witness.Stated.{Stated}
use Rattle.btor_witness.specs.declared.room.Room.{Room}
use Rattle.btor_witness.specs.Sizes.{widths_of}
use Rattle.btor_witness.specs.Printing.{value_of}

-- the word 0 of a width
abbrev pub zero_of : ℕ → BitVector
zero_of width = record { width = width; bits = 0 }

-- the statement of the word 0 in place of the word
abbrev pub zeroed : Stated → Stated
zeroed s = record { index = s.index; value = zero_of s.value.width }

-- the word of a statement, or another where there is none
abbrev pub word_or : Option BitVector → BitVector → BitVector
word_or None y = y
word_or (Some x) y = x

-- the words with those that are stated in their places
pub record ArePut (stated : List Stated) (old new : List BitVector) : Type 0 where
  pub sized : length new ≡ length old
  pub by_index : (k : ℕ) → word_at new k ≡ word_or (value_of stated k) (word_at old k)

-- for each width the stated word, or zero
pub record HoldsStated (widths : List ℕ) (stated : List Stated) (words : List BitVector) : Type 0 where
  pub sized : length words ≡ length widths
  pub by_index : (k w : ℕ) → slice_get widths k ≡ Some w → word_at words k ≡ stated_or (value_of stated k) w

-- each is the width of a word
pub record AreWidths (widths : List ℕ) : Type 0 where
  pub by_index : (k w : ℕ) → slice_get widths k ≡ Some w → (1 ≤ w) × (w ≤ WIDEST)

-- the places of the lines of a kind, in order, where the first line is at place n
abbrev pub places_in : ℕ → (LineOp → Bool) → List Line → List ℕ
places_in n kind [] = []
places_in n kind (l ∷ ls) = if kind l.op then (n ∷ places_in (suc n) kind ls) else places_in (suc n) kind ls

abbrev pub places_of : (LineOp → Bool) → List Line → List ℕ
places_of kind lines = places_in 0 kind lines

-- the word of the line at the stated number's place is the stated one
abbrev pub IsWordThere : List ℕ → List BitVector → Stated → Type 0
IsWordThere places row s = (i : ℕ) → slice_get places s.index ≡ Some i → word_at row i ≡ s.value

-- a frame of these lines, nothing stated, and the places of the states
pub record RoomFits (lines : List Line) (room : Room) : Type 0 where
  pub frames : FramesFit lines room.frames
  pub inputs : HoldsStated (widths_of is_input lines) [] room.inputs
  pub free : HoldsStated (widths_of is_state lines) [] room.free
  pub places : room.places ≡ places_of is_state lines
