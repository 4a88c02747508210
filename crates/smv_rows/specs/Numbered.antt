-- Values that are stated by the numbers of items.
use Rattle.std.specs.Prelude.{◌≡◌, List, [], ◌∷◌, Option, Some, None, length, map, slice_set}
use Rattle.smv_meaning.specs.declared.value.Value.{Value}
use Rattle.smv_numbered.specs.declared.run.Change.{Change}
use Rattle.smv_meaning.specs.Values.{Valuation, no_value, given}
use Rattle.smv_operators.specs.declared.seen.Seen.{Seen}
use Rattle.smv_numbered.specs.declared.heading.Heading.TheVariants as Of
use Rattle.smv_numbered.specs.Values.{values_of}
use Rattle.smv_flat.specs.declared.parts.FlatParts.{FlatParts}
use Rattle.smv_flat.specs.FlatParts.{parts_plain}
use Rattle.smv_rows.specs.Places.{IsGiven}

abbrev pub value_or_none : Option Value → Value
value_or_none None = no_value
value_or_none (Some v) = v

-- the value of each item, or what stands for it where there is none
abbrev pub values_or_none : List (Option Value) → List Value
values_or_none stated = map value_or_none stated

-- the last value of each item after these changes
abbrev pub set_by : List Value → List Change → List Value
set_by values [] = values
set_by values (c ∷ cs) = set_by (slice_set values c.item c.value) cs

-- ---- rows

-- the variables have the values that are stated for them, where these are carried
abbrev pub CarriesValues : FlatParts → (carried : List Value) → List Seen → Type 0
CarriesValues flat carried values = (stated : List (Option Value)) → length stated ≡ length flat.items.now → carried ≡ values_or_none stated
    → IsGiven flat.items.now (given (values_of Of.State (parts_plain flat).items stated)) (given (values_of Of.Input (parts_plain flat).items stated)) values

-- the variables of a state with the inputs of a label
abbrev pub GivesInputs : FlatParts → (old other new : List Seen) → Type 0
GivesInputs flat old other new = (state before label after : Valuation) → IsGiven flat.items.now state before old → IsGiven flat.items.now after label other → IsGiven flat.items.now state label new
