-- The flat form of an accepted model has the truth of the model.
use Rattle.std.specs.Prelude.{◌≡◌, ℕ, ◌<◌, if◌then◌else◌, List, length, Option, Some, None, slice_get}
use Rattle.text_core.specs.declared.place.Place.{Place}
use Rattle.smv_text.specs.declared.token.Token.{Token}
use Rattle.smv_text.specs.Tree.{PlainSource}
use Rattle.smv_text.specs.Sources.{SpellsSource}
use Rattle.smv_meaning.specs.declared.value.Value.{Value}
use Rattle.smv_meaning.specs.Values.{Valuation, no_value}
use Rattle.smv_meaning.specs.Expressions.{denote}
use Rattle.smv_meaning.specs.Instances.{Instance, instances_of}
use Rattle.smv_meaning.specs.Meaning.{is_input}
use Rattle.smv_meaning.specs.Phases.{IsAccepted}
use Rattle.smv_meaning.specs.Runs.{init_holds, invar_holds, trans_holds, frozen_stay, is_broken}
use Rattle.smv_meaning.specs.Settled.{Acyclic, values_in}
use Rattle.smv_items.specs.FlatItems.{Content, variable, definition, actual, Origin, origins_of, path_of}
use Rattle.smv_flat.specs.FlatForms.{PlainFlat, flat_of, flat_smv}
use Rattle.smv_flat.specs.FlatTruth.{Row, IsRow, flat_init, flat_invar, flat_trans, flat_stay, flat_broken}

-- ---- each state and label has one row

abbrev pub content_value : List Instance → Valuation → Valuation → List ℕ → Content → Value
content_value t state label x (variable kind d) = if is_input kind then label x else state x
content_value t state label x (definition j e) = (denote (values_in t state label j) (values_in t state label j) e).value
content_value t state label x (actual j e) = (denote (values_in t state label j) (values_in t state label j) e).value

abbrev pub origin_value : List Instance → Valuation → Valuation → Option Origin → Value
origin_value t state label None = no_value
origin_value t state label (Some m) = content_value t state label (path_of t m) m.content

-- the value of each item in a state and a label
abbrev pub row_of : List Instance → Valuation → Valuation → Row
row_of t state label k = origin_value t state label (slice_get (origins_of t) k)

abbrev pub RowIsThere : Type 0
RowIsThere = (t : List Instance) → Acyclic t → (state label : Valuation) → IsRow (flat_of t) state label (row_of t state label)

abbrev pub RowIsOne : Type 0
RowIsOne = (t : List Instance) → Acyclic t → (state label : Valuation) (row : Row) → IsRow (flat_of t) state label row
    → (k : ℕ) → k < length (flat_of t).items → row k ≡ row_of t state label k

-- ---- truth

-- what the flat form says of the rows of two states is what the model says of the states; what the rows say of the following
-- state's label, and for all but transitions of the label, doesn't matter
pub record HasTruth (t : List Instance) (flat : PlainFlat) (state label following : Valuation) (now later : Row) : Type 0 where
  pub init : flat_init flat now later ≡ init_holds t state
  pub invar : flat_invar flat now later ≡ invar_holds t state
  pub trans : flat_trans flat now later ≡ trans_holds t state label following
  pub stays : flat_stay flat now later ≡ frozen_stay t state following
  pub broken : (j : ℕ) → flat_broken flat j now later ≡ is_broken t j state

abbrev pub SameTruth : Type 0
SameTruth = (source : PlainSource) (end : Place) (xs : List Token) → SpellsSource source end xs → (needed : ℕ) → IsAccepted source needed
    → (state label following other : Valuation) (now later : Row) → IsRow (flat_smv source) state label now → IsRow (flat_smv source) following other later
    → HasTruth (instances_of source) (flat_smv source) state label following now later
