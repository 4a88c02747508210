-- What fails at a step of a stated run (NuSMV 2.6 User Manual, 2.3 and 2.4).
use Rattle.std.specs.Prelude.{◌≡◌, ℕ, ◌&&◌, Bool, true, if◌then◌else◌, List, [], ◌∷◌, map, length, Option, Some, None, IsTrue}
use Rattle.std.specs.List.{AllByRecursion}
use Rattle.name_maps.specs.Tables.{AreDistinct}
use Rattle.text_core.specs.declared.verdict.Clause.{Clause}
use Rattle.text_core.specs.declared.verdict.Clause.TheVariants.{ValueOutside, InitFails, TransFails, InvarFails}
use Rattle.smv_text.specs.Tree.{PlainSource}
use Rattle.smv_meaning.specs.declared.value.Given.{Given}
use Rattle.smv_meaning.specs.declared.value.Run.{Run}
use Rattle.smv_meaning.specs.Values.{Valuation}
use Rattle.smv_meaning.specs.Instances.{Instance, instances_of}
use Rattle.smv_meaning.specs.Runs.{state_fits, label_fits, init_holds, invar_holds, step_holds}
use Rattle.smv_items.specs.FlatItems.{PlainFlatItem}
use Rattle.smv_flat.specs.FlatForms.{PlainFlat}
use Rattle.smv_flat.specs.FlatTruth.{IsRow}
use Rattle.smv_operators.specs.declared.seen.Seen.{Seen}
use Rattle.smv_flat_evaluation.specs.RowValues.{row_values}
use Rattle.smv_flatten.specs.FlatModel.{IsFlatOf}
use Rattle.smv_flat.specs.declared.parts.FlatParts.{FlatParts}
use Rattle.smv_rows.specs.Listed.{lists_state, lists_label}
use Rattle.smv_rows.specs.Places.{IsGiven}
use Rattle.smv_flat.specs.FlatParts.{parts_plain}

-- some model has this flat form
abbrev pub HasModel : FlatParts → Type 0
HasModel flat = (source : PlainSource) × IsFlatOf source (parts_plain flat)

-- ---- clauses

-- the first that fails
abbrev pub failing : List (Clause × Bool) → Option Clause
failing [] = None
failing (c ∷ cs) = if c.1 then failing cs else Some c.0

abbrev pub first_clauses : List Instance → Valuation → List (Clause × Bool)
first_clauses t s = (ValueOutside, state_fits t s) ∷ (InitFails, init_holds t s) ∷ (InvarFails, invar_holds t s) ∷ []

-- of the step to the state u under the label l
abbrev pub step_clauses : List Instance → Valuation → Valuation → Valuation → List (Clause × Bool)
step_clauses t s l u = (ValueOutside, state_fits t u && label_fits t l) ∷ (TransFails, step_holds t s l u) ∷ (InvarFails, invar_holds t u) ∷ []

-- ---- rows

-- whatever model the flat form is of, the label's values are of the declared types
abbrev pub LabelFits : FlatParts → Valuation → Type 0
LabelFits flat label = (source : PlainSource) → IsFlatOf source (parts_plain flat) → IsTrue (label_fits (instances_of source) label)

abbrev pub StateFits : FlatParts → Valuation → Type 0
StateFits flat state = (source : PlainSource) → IsFlatOf source (parts_plain flat) → IsTrue (state_fits (instances_of source) state)

-- a row of the state under some label, both of the declared types
pub record IsStateRow (flat : FlatParts) (state : Valuation) (values : List Seen) : Type 0 where
  pub size : length values ≡ length flat.items.now
  pub label : Valuation
  pub row : IsRow (parts_plain flat) state label (row_values values)
  pub state_fits : StateFits flat state
  pub label_fits : LabelFits flat label

-- the variables have the values of a state and of a label whose values are of the declared types
pub record IsFirstRow (flat : FlatParts) (state label : Valuation) (values : List Seen) : Type 0 where
  pub given : IsGiven flat.items.now state label values
  pub label_fits : LabelFits flat label

-- a row of a state, and the values of the variables in the following state, under the label that leads to it
pub record AreStepRows (flat : FlatParts) (state label following : Valuation) (before values : List Seen) : Type 0 where
  pub row_before : IsStateRow flat state before
  pub given : IsGiven flat.items.now following label values

-- a row of a state under some label, and values with the inputs of another label
pub record AreLastRows (flat : FlatParts) (state label after : Valuation) (values inputs : List Seen) : Type 0 where
  pub row : IsStateRow flat state values
  pub given_inputs : IsGiven flat.items.now after label inputs
  pub label_fits : LabelFits flat label

-- ---- states and labels that name their variables in the order of the items

-- all of a run's states and labels
pub record IsListedRun (flat : PlainFlat) (run : Run) : Type 0 where
  pub states : AllByRecursion (λ s. lists_state flat.items s ≡ true) run.states
  pub labels : AllByRecursion (λ l. lists_label flat.items l ≡ true) run.labels

-- these states, their labels and the last label
pub record AllListed (items : List PlainFlatItem) (states labels : List (List Given)) (last : List Given) : Type 0 where
  pub apart : AreDistinct (map (λ m. m.name) items)
  pub in_states : AllByRecursion (λ s. lists_state items s ≡ true) states
  pub in_labels : AllByRecursion (λ l. lists_label items l ≡ true) labels
  pub in_last : lists_label items last ≡ true
