-- Frames of lines with a bad line true in the last one (BTOR2, CAV 2018), and traces of their script (MoXI, SPIN 2024).
use Rattle.std.specs.Prelude.{◌≡◌, ℕ, ◌≤◌, true, List, [], slice_get, slice_index_or, Some}
use Rattle.word_core.specs.Words.{BitVector}
use Rattle.btor_tree.specs.declared.lines.Line.{Line}
use Rattle.btor_tree.specs.Fits.{has_word}
use Rattle.btor_tree.specs.Frame.{word_at}
use Rattle.moxi_terms.specs.declared.data.Datum.TheVariants.{Bits}
use Rattle.moxi_scripts.specs.declared.script.Query.{Query}
use Rattle.moxi_scripts.specs.Behaviour.{Trace}
use Rattle.moxi_scripts.specs.Meeting.{MeetsQuery}
use Rattle.btor_import.specs.Script.{import_of, number_of}

-- some trace of steps 0 to k of the script meets the query
abbrev pub HasTrace : List Line → Query → ℕ → Type 0
HasTrace lines q k = (trace : Trace) × MeetsQuery (import_of lines) q k trace

-- the row at a place
abbrev pub row_at : List (List BitVector) → ℕ → List BitVector
row_at rows i = slice_index_or rows i []

-- at steps 0 to k each name has the word of its line in the frame of this number
pub record HasWordsOf (lines : List Line) (k : ℕ) (rows : List (List BitVector)) (trace : Trace) : Type 0 where
  pub words : (i n : ℕ) (l : Line) → i ≤ k → slice_get lines n ≡ Some l → has_word l.op ≡ true → trace i (number_of lines n) ≡ Bits (word_at (row_at rows i) n)
