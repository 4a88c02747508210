-- The values of a script's variables that are of their sorts and meet what is asked of each item are those of rows of states and labels,
-- and each row has such values.
use Rattle.std.specs.Prelude.{◌≡◌, ℕ, List, Some, slice_get, IsTrue}
use Rattle.std.specs.List.{AllByRecursion}
use Rattle.text_core.specs.declared.place.Place.{Place}
use Rattle.smv_text.specs.declared.token.Token.{Token}
use Rattle.smv_text.specs.declared.tree.When.TheVariants.{Always}
use Rattle.smv_text.specs.Tree.{PlainSource}
use Rattle.smv_text.specs.Lexing.{Lexes}
use Rattle.smv_text.specs.Sources.{SpellsSource}
use Rattle.smv_meaning.specs.Values.{Valuation, given}
use Rattle.smv_meaning.specs.Instances.{Instance, instances_of}
use Rattle.smv_meaning.specs.Phases.{IsAccepted}
use Rattle.smv_meaning.specs.Runs.{state_fits, label_fits}
use Rattle.smv_items.specs.FlatItems.{PlainFlatItem}
use Rattle.smv_flat.specs.FlatForms.{PlainFlat, flat_of, flat_smv}
use Rattle.smv_flat_laws.specs.FlatLaws.{row_of}
use Rattle.smv_flat.specs.FlatWidth.{width_of}
use Rattle.moxi_terms.specs.Tree.{sorts_of}
use Rattle.moxi_terms.specs.Value.{Calls, Values}
use Rattle.moxi_scripts.specs.Script.{variables_in}
use Rattle.moxi_scripts.specs.Behaviour.{Suits, Holds}
use Rattle.smv_script.specs.Script.{coding_of, item_parts, symbol_sort, system_of}
use Rattle.smv_script_laws.specs.TermLaws.{HasRow}
use Rattle.smv_script_laws.specs.Decoding.{decoded_state, decoded_label, environment_of}

-- each variable of the script's system has a value of its sort
abbrev pub SuitsSystem : PlainFlat → ℕ → Values → Type 0
SuitsSystem flat width env = Suits (symbol_sort flat.symbols) (sorts_of (variables_in (system_of flat width))) env

-- what is asked of each item in each state holds
abbrev pub ItemsHold : PlainFlat → ℕ → Calls → Values → Type 0
ItemsHold flat width calls env = (k : ℕ) (m : PlainFlatItem) → slice_get flat.items k ≡ Some m
    → AllByRecursion (Holds calls env env) (item_parts flat (coding_of flat width) Always k m)

-- the values are those of the row of a state and a label of the declared types
abbrev pub IsEnvironmentOf : List Instance → ℕ → Valuation → Valuation → Values → Type 0
IsEnvironmentOf t width state label env = HasRow t (coding_of (flat_of t) width) state label (row_of t state label) env

-- they are those of the state and the label for which they stand
abbrev pub IsEnvironmentOfDecoded : List Instance → ℕ → Values → Type 0
IsEnvironmentOfDecoded t width env =
    IsEnvironmentOf t width (given (decoded_state (flat_of t) (coding_of (flat_of t) width) env)) (given (decoded_label (flat_of t) (coding_of (flat_of t) width) env)) env

abbrev pub EnvironmentsAreRows : Type 0
EnvironmentsAreRows = (source : PlainSource) (end : Place) (text : List ℕ) (xs : List Token) → Lexes text xs → SpellsSource source end xs → (needed : ℕ) → IsAccepted source needed
    → (calls : Calls) (env : Values) → SuitsSystem (flat_smv source) (width_of (flat_smv source)) env → ItemsHold (flat_smv source) (width_of (flat_smv source)) calls env
    → IsEnvironmentOfDecoded (instances_of source) (width_of (flat_smv source)) env

-- the values that stand for the row of a state and a label
abbrev pub environment_in : List Instance → ℕ → Valuation → Valuation → Values
environment_in t width state label = environment_of (flat_of t) (coding_of (flat_of t) width) (row_of t state label)

abbrev pub HasEnvironment : List Instance → ℕ → Valuation → Valuation → Type 0
HasEnvironment t width state label =
    IsEnvironmentOf t width state label (environment_in t width state label) × SuitsSystem (flat_of t) width (environment_in t width state label)

abbrev pub RowsHaveEnvironments : Type 0
RowsHaveEnvironments = (source : PlainSource) (end : Place) (text : List ℕ) (xs : List Token) → Lexes text xs → SpellsSource source end xs → (needed : ℕ) → IsAccepted source needed
    → (state label : Valuation) → IsTrue (state_fits (instances_of source) state) → IsTrue (label_fits (instances_of source) label)
    → HasEnvironment (instances_of source) (width_of (flat_smv source)) state label
