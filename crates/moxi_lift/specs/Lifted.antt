-- The trace for which a witness of a flat system's lines stands.
use Rattle.std.specs.Prelude.{ℕ, zero, suc, List, [], ◌∷◌, ◌++◌, map, length, slice_index_or}
use Rattle.word_core.specs.Words.{BitVector}
use Rattle.btor_tree.specs.declared.lines.Line.{Line}
use Rattle.btor_frames.specs.Judged.{stated_or}
use Rattle.btor_witness.specs.declared.witness.Stated.{Stated}
use Rattle.btor_witness.specs.declared.witness.Frame.{Frame}
use Rattle.btor_witness.specs.declared.witness.Witness.{Witness}
use Rattle.btor_witness.specs.Printing.{value_of}
use Rattle.moxi_terms.specs.declared.data.Datum.{Datum}
use Rattle.moxi_terms.specs.declared.data.Sort.{Sort}
use Rattle.moxi_terms.specs.declared.data.Sort.TheVariants.{Truth}
use Rattle.moxi_terms.specs.declared.term.Enumeration.{Enumeration}
use Rattle.moxi_terms.specs.declared.term.Variable.{Variable}
use Rattle.moxi_terms.specs.Tree.{sorts_of}
use Rattle.moxi_terms.specs.Value.{Values}
use Rattle.moxi_flat.specs.FlatSystem.{PlainFlatSystem}
use Rattle.moxi_lines.specs.Codes.{sort_bits}
use Rattle.moxi_lines.specs.Decoding.{decoded_datum}
use Rattle.moxi_layout.specs.Layout.{now_values}

-- the first n values
abbrev pub values_upto : Values → ℕ → List Datum
values_upto values zero = []
values_upto values (suc n) = values_upto values n ++ values n ∷ []

-- ---- of a witness

-- the value of a sort for which the stated word of input v stands, or the word 0 where none is stated
abbrev pub stated_datum : List Enumeration → List Stated → Sort → ℕ → Datum
stated_datum es stated s v = decoded_datum es s (stated_or (value_of stated v) (sort_bits es s))

-- variable v has the value of input v
abbrev pub lifted_values : List Enumeration → List Variable → List Stated → Values
lifted_values es vs stated v = stated_datum es stated (slice_index_or (sorts_of vs) v Truth) v

abbrev pub lifted_step : List Enumeration → List Variable → List Stated → List Datum
lifted_step es vs stated = values_upto (lifted_values es vs stated) (length vs)

-- a step for each frame
abbrev pub lifted : PlainFlatSystem → Witness → List (List Datum)
lifted f w = map (λ (frame : Frame). lifted_step f.scope.enumerations f.variables frame.inputs) w.frames

-- ---- of frames

-- a step for each row, with the values for which the words of its inputs stand
abbrev pub decoded_frames : PlainFlatSystem → List Line → List (List BitVector) → List (List Datum)
decoded_frames f lines rows = map (λ row. values_upto (now_values f lines row) (length f.variables)) rows
