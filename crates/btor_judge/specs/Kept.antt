-- What is kept of one part of a frame.
use Rattle.std.specs.Prelude.{◌≡◌, ◌<◌, ℕ, Bool, false, List, length, get_or, Some, slice_get, Result, Ok, Err}
use Rattle.word_core.specs.Words.{BitVector}
use Rattle.text_core.specs.declared.place.Kind.{Kind}
use Rattle.btor_tree.specs.Frame.{word_at}
use Rattle.btor_witness.specs.declared.witness.Stated.{Stated}
use Rattle.btor_witness.specs.Parts.{is_stated}
use Rattle.btor_witness.specs.Room.{HoldsStated, AreWidths, zero_of}

-- the widths that a part is stated over, which of them are stated, and the words
pub record StatedPart : Type 0 where
  pub widths : List ℕ
  pub marks : List Bool
  pub words : List BitVector

abbrev pub kept : List ℕ → List Bool → List BitVector → StatedPart
kept widths marks words = record { widths = widths; marks = marks; words = words }

-- a mark and a word for each width of a word
pub record IsStatedPart (kept : StatedPart) : Type 0 where
  pub marked : length kept.marks ≡ length kept.widths
  pub worded : length kept.words ≡ length kept.widths
  pub widths : AreWidths kept.widths

-- just what is stated is marked, and its word is the stated one; the other words are zero
pub record Holds (kept : StatedPart) (stated : List Stated) : Type 0 where
  pub marks : (i : ℕ) → get_or kept.marks i false ≡ is_stated stated i
  pub words : HoldsStated kept.widths stated kept.words

-- the statements behind one more statement are kept, or it is refused
abbrev pub IsStating : Result (List Stated) Kind → StatedPart → Result (Unit {0}) Kind → Type 0
IsStating stating kept (Ok _) = (stated : List Stated) × (stating ≡ Ok stated) × Holds kept stated
IsStating stating kept (Err kind) = stating ≡ Err kind

-- nothing is marked below a number, and the words that aren't marked are zero
pub record IsClearing (n : ℕ) (kept : StatedPart) : Type 0 where
  pub before : (i : ℕ) → i < n → get_or kept.marks i false ≡ false
  pub cleared : (i width : ℕ) → slice_get kept.widths i ≡ Some width → get_or kept.marks i false ≡ false → word_at kept.words i ≡ zero_of width
