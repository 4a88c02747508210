-- Traces of the system of a flat form's script (MoXI, SPIN 2024), as lists of environments, and what is read of a step.
use Rattle.std.specs.Prelude.{ℕ, ◌≤◌, Bool, List, map, length}
use Rattle.std.specs.List.{AllByRecursion}
use Rattle.smv_meaning.specs.declared.value.Given.{Given}
use Rattle.smv_items.specs.declared.items.ItemKind.{ItemKind}
use Rattle.smv_items.specs.declared.items.FlatItem.{FlatItem}
use Rattle.smv_items.specs.FlatItems.{PlainFlatItem}
use Rattle.smv_items.specs.FlatItemView.{item_plain}
use Rattle.smv_flatten.specs.FlatModel.{FlatModel, flat_plain}
use Rattle.moxi_terms.specs.declared.data.Datum.{Datum}
use Rattle.moxi_terms.specs.Sorts.{Fit}
use Rattle.moxi_terms.specs.Tree.{sorts_of}
use Rattle.moxi_terms.specs.Value.{at}
use Rattle.moxi_scripts.specs.Script.{variables_in}
use Rattle.smv_script.specs.Codes.{value_of}
use Rattle.smv_script.specs.Script.{Group, inputs, outputs, items_in, coding_of, symbol_sort, system_of}
use Rattle.smv_script_laws.specs.Decoding.{is_of_state, is_of_label, decoded_from}
use Rattle.smv_to_moxi.specs.declared.lift.Part.{Part}
use Rattle.smv_to_moxi.specs.declared.lift.Part.TheVariants.{State, Label}

-- ---- traces

-- a datum of its sort for each variable of the script's system
abbrev pub IsStepOf : FlatModel → List Datum → Type 0
IsStepOf f env = Fit (symbol_sort f.symbols) (sorts_of (variables_in (system_of (flat_plain f) f.width))) env

-- one or more steps
pub record IsTraceOf (f : FlatModel) (envs : List (List Datum)) : Type 0 where
  pub some : 1 ≤ length envs
  pub steps : AllByRecursion (IsStepOf f) envs

-- ---- parts of steps

abbrev pub picks : Part → ItemKind → Bool
picks State = is_of_state
picks Label = is_of_label

-- the list in which the variables of the part stand
abbrev pub group_in : Part → Group
group_in State = outputs
group_in Label = inputs

abbrev pub inputs_in : List FlatItem → List PlainFlatItem
inputs_in items = items_in inputs (map item_plain items)

-- an item's name with the value for which the datum stands
abbrev pub given_here : List (List ℕ) → PlainFlatItem → Datum → Given
given_here symbols m d = record { name = m.name; value = value_of symbols m.type d }

abbrev pub read_of : Part → FlatModel → List Datum → List Given
read_of part f env = decoded_from f.symbols (coding_of (flat_plain f) f.width).place (picks part) (at env) 0 (flat_plain f).items

-- the state of a step, and the label of the transition to the next one
abbrev pub state_of : FlatModel → List Datum → List Given
state_of f env = read_of State f env

abbrev pub label_of : FlatModel → List Datum → List Given
label_of f env = read_of Label f env
