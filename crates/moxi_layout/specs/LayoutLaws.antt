-- For lines that lay a flat system out, frames represent the system's traces.
use Rattle.std.specs.Prelude.{◌≡◌, ◌↔◌, ℕ, ◌+◌, ◌≤◌, List, [], ◌∷◌, length, slice_get, slice_index_or, Some}
use Rattle.word_core.specs.Words.{BitVector}
use Rattle.btor_tree.specs.declared.lines.Line.{Line}
use Rattle.btor_tree.specs.Fits.{IsWellFormed, is_bad, operands}
use Rattle.btor_tree.specs.Frame.{AreFrames, IsBad}
use Rattle.moxi_terms.specs.declared.data.Sort.{Sort}
use Rattle.moxi_terms.specs.Tree.{sorts_of}
use Rattle.moxi_scripts.specs.declared.script.Query.{Query}
use Rattle.moxi_scripts.specs.Behaviour.{Trace}
use Rattle.moxi_flat.specs.FlatMeeting.{MeetsFlat}
use Rattle.moxi_flat.specs.FlatSorts.{IsSortedFlat}
use Rattle.moxi_flat.specs.FlatSystem.{PlainFlatSystem}
use Rattle.moxi_lines.specs.TermLaws.{HaveCodes}
use Rattle.moxi_layout.specs.Layout.{LaysOut, now_values}

-- this holds of the last element
abbrev pub AtLast : {X : Type 0} → (X → Type 0) → List X → Type 0
AtLast P [] = ⊥
AtLast P (x ∷ []) = P x
AtLast P (x ∷ y ∷ more) = AtLast P (y ∷ more)

-- frames 0 to k with every constraint true, and bad j true in frame k
pub record AreBadFrames (lines : List Line) (j k : ℕ) (rows : List (List BitVector)) : Type 0 where
  pub sized : length rows ≡ k + 1
  pub frames : AreFrames lines rows
  pub bad : AtLast (λ row. IsBad lines row j) rows

abbrev pub HasFrames : List Line → ℕ → ℕ → Type 0
HasFrames lines j k = (rows : List (List BitVector)) × AreBadFrames lines j k rows

-- some trace of steps 0 to k meets the query
abbrev pub HasFlatTrace : PlainFlatSystem → Query → ℕ → Type 0
HasFlatTrace f q k = (trace : Trace) × MeetsFlat f q k trace

-- the trace that frames represent: at step j the values that the words of frame j code
abbrev pub decoded_trace : PlainFlatSystem → List Line → List (List BitVector) → Trace
decoded_trace f lines rows j = now_values f lines (slice_index_or rows j [])

-- frames from which the trace is decoded: it has their values at steps 0 to k
pub record AreFramesOf (f : PlainFlatSystem) (lines : List Line) (j k : ℕ) (trace : Trace) (rows : List (List BitVector)) : Type 0 where
  pub frames : AreBadFrames lines j k rows
  pub decoded : (i v : ℕ) (s : Sort) → i ≤ k → slice_get (sorts_of f.variables) v ≡ Some s → decoded_trace f lines rows i v ≡ trace i v

-- The system is well sorted, and the lines lay it out.
pub record IsLaidOut (f : PlainFlatSystem) (lines : List Line) : Type 0 where
  pub sorted : IsSortedFlat f
  pub codes : HaveCodes f.scope.enumerations
  pub well_formed : IsWellFormed lines
  pub lays : LaysOut f lines

-- ---- laws

-- frames with the bad line of query j true in the last are decoded to a trace that meets the query
abbrev pub FramesAreTraces : Type 0
FramesAreTraces = (f : PlainFlatSystem) (lines : List Line) → IsLaidOut f lines → (j k : ℕ) (q : Query) → slice_get f.queries j ≡ Some q
    → (rows : List (List BitVector)) → AreBadFrames lines j k rows → MeetsFlat f q k (decoded_trace f lines rows)

-- for each trace that meets query j there are frames with its bad line true in the last, from which the trace is decoded
abbrev pub TracesAreFrames : Type 0
TracesAreFrames = (f : PlainFlatSystem) (lines : List Line) → IsLaidOut f lines → (j k : ℕ) (q : Query) → slice_get f.queries j ≡ Some q
    → (trace : Trace) → MeetsFlat f q k trace → (rows : List (List BitVector)) × AreFramesOf f lines j k trace rows

-- such frames exist exactly where such a trace exists, for each query and each number of steps
abbrev pub TracesHaveFrames : Type 0
TracesHaveFrames = (f : PlainFlatSystem) (lines : List Line) → IsLaidOut f lines → (j k : ℕ) (q : Query) → slice_get f.queries j ≡ Some q
    → HasFlatTrace f q k ↔ HasFrames lines j k

-- there are as many bad lines as queries
abbrev pub BadsAreQueries : Type 0
BadsAreQueries = (f : PlainFlatSystem) (lines : List Line) → LaysOut f lines → length (operands is_bad lines) ≡ length f.queries
