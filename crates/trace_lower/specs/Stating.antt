-- The frame that states a row of values, one for each item of a flat form.
use Rattle.std.specs.Prelude.{◌≡◌, ℕ, ◌+◌, List, [], length, map, take}
use Rattle.word_core.specs.Words.{BitVector}
use Rattle.btor_witness.specs.declared.witness.Stated.{Stated}
use Rattle.btor_witness.specs.declared.witness.Frame.{Frame}
use Rattle.smv_text.specs.Tree.{PlainSource}
use Rattle.smv_meaning.specs.declared.value.Given.{Given}
use Rattle.smv_meaning.specs.declared.value.Value.{Value}
use Rattle.smv_items.specs.FlatItems.{PlainFlatItem}
use Rattle.smv_flat.specs.FlatForms.{PlainFlat, flat_smv}
use Rattle.smv_flat.specs.FlatTruth.{Row}
use Rattle.smv_flat.specs.FlatWidth.{width_of}
use Rattle.smv_flatten.specs.FlatModel.{IsFlatOf}
use Rattle.smv_script.specs.Codes.{datum_of}
use Rattle.smv_script.specs.Script.{Group, locals, group_start, items_in, place_of_item, symbol_sort}
use Rattle.smv_script_laws.specs.Decoding.{datum_from}
use Rattle.moxi_terms.specs.Value.{Values}
use Rattle.moxi_lines.specs.Codes.{code_of}
use Rattle.moxi_lower.specs.Lowered.{codes_upto, lowered_step}
use Rattle.witness_lift.specs.LineLaws.{model_system}
use Rattle.trace_lower.specs.Lowered.{step_in, steps_in}

-- the bits of an integer, and the symbols
pub record Codes : Type 0 where
  pub width : ℕ
  pub symbols : List (List ℕ)

-- the word of a value
abbrev pub word_of : Codes → Value → BitVector
word_of c v = code_of (symbol_sort c.symbols) (datum_of c.width c.symbols v)

-- what the variables of items with these values have
abbrev pub values_of : Codes → List PlainFlatItem → Row → Values
values_of c items row v = datum_from c.width c.symbols (place_of_item items) row v 0 items

-- the words of the first so many of them
abbrev pub stated_of : Codes → List PlainFlatItem → Row → ℕ → List Stated
stated_of c items row n = codes_upto (symbol_sort c.symbols) (values_of c items row) n

-- the number of the variables up to the last of a list
abbrev pub group_end : List PlainFlatItem → Group → ℕ
group_end items g = group_start items g + length (items_in g items)

-- the words of the lists before this one, and in it those of the first k items
abbrev pub stated_upto : Codes → List PlainFlatItem → Row → Group → ℕ → List Stated
stated_upto c items row g k = stated_of c items row (group_start items g + length (items_in g (take k items)))

-- the number of the variables
abbrev pub variable_count : List PlainFlatItem → ℕ
variable_count items = group_end items locals

-- all words, and no state
abbrev pub frame_of : Codes → List PlainFlatItem → Row → Frame
frame_of c items row = record { states = []; inputs = stated_of c items row (variable_count items) }

-- a text spells the model, its checks hold, and this is its flat form with its codes
pub record IsCodedOf (source : PlainSource) (flat : PlainFlat) (c : Codes) : Type 0 where
  pub form : IsFlatOf source flat
  pub width : c.width ≡ width_of (flat_smv source)
  pub symbols : c.symbols ≡ flat.symbols

-- the frame of a state and a label
abbrev pub model_frame : PlainSource → List Given → List Given → Frame
model_frame source state label = lowered_step (model_system source).scope.enumerations (length (model_system source).variables) (step_in source state label)

-- those of a run's states under its labels
abbrev pub model_frames : PlainSource → List (List Given) → List (List Given) → List Frame
model_frames source states labels = map (lowered_step (model_system source).scope.enumerations (length (model_system source).variables)) (steps_in source states labels)
