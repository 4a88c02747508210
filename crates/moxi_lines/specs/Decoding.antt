-- The values that a frame's words stand for.
use Rattle.std.specs.Prelude.{◌≡◌, ℕ, nat_lt, Bool, true, if◌then◌else◌, List, Some, slice_get, slice_index_or}
use Rattle.word_core.specs.Words.{BitVector}
use Rattle.btor_tree.specs.declared.lines.Line.{Line}
use Rattle.btor_tree.specs.Frame.{word_at}
use Rattle.moxi_terms.specs.declared.data.Sort.{Sort}
use Rattle.moxi_terms.specs.declared.data.Sort.TheVariants.{Truth, Choice}
use Rattle.moxi_terms.specs.declared.data.Datum.{Datum}
use Rattle.moxi_terms.specs.declared.data.Datum.TheVariants as datum
use Rattle.moxi_terms.specs.declared.term.Enumeration.{Enumeration}
use Rattle.moxi_terms.specs.declared.term.Variable.{Variable}
use Rattle.moxi_terms.specs.Tree.{sorts_of}
use Rattle.moxi_terms.specs.Value.{Values}
use Rattle.moxi_terms.specs.Names.{constant_count}
use Rattle.moxi_lines.specs.Codes.{datum_of}
use Rattle.moxi_lines.specs.TermLaws.{VariablesAreRepresented}
use Rattle.moxi_lines.specs.Lines.{input_place, state_place}
use Rattle.moxi_lines.specs.Variables.{IsInside}

-- the value of a sort that a word stands for; a word that is no constant's stands for the first one
abbrev pub decoded_datum : List Enumeration → Sort → BitVector → Datum
decoded_datum es (Choice n) x = if nat_lt x.bits (constant_count es n) then datum.Constant n x.bits else datum.Constant n 0
decoded_datum es s x = datum_of s x

-- the values of variables whose words are at places
abbrev pub decoded : List Enumeration → List Variable → List BitVector → (ℕ → ℕ) → Values
decoded es vs row place v = decoded_datum es (slice_index_or (sorts_of vs) v Truth) (word_at row (place v))

-- each variable's word at its place is inside
pub record PlacesInside (es : List Enumeration) (vs : List Variable) (row : List BitVector) (place : ℕ → ℕ) : Type 0 where
  pub each : (v : ℕ) (s : Sort) → slice_get (sorts_of vs) v ≡ Some s → IsInside es s (word_at row (place v))

-- In a row that meets the lines of variables the words at the inputs, and those at the states, stand for values; where they are
-- inside they are the words of these values.
pub record Decodes (es : List Enumeration) (vs : List Variable) (row : List BitVector) (lines : List Line) (inputs : List ℕ) : Type 0 where
  pub now : (known : Bool) → (known ≡ true → PlacesInside es vs row (input_place inputs)) → VariablesAreRepresented es row known lines (sorts_of vs) (input_place inputs) (decoded es vs row (input_place inputs))
  pub before : (known : Bool) → (known ≡ true → PlacesInside es vs row (state_place inputs)) → VariablesAreRepresented es row known lines (sorts_of vs) (state_place inputs) (decoded es vs row (state_place inputs))
