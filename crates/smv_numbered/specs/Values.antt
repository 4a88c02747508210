-- The values that changes state, and those of a state or a label.
use Rattle.std.specs.Prelude.{ℕ, Bool, true, false, Option, Some, None, List, [], ◌∷◌, ◌++◌, length, replicate, slice_set}
use Rattle.std.specs.Borrow.{Bor}
use Rattle.smv_meaning.specs.declared.value.Value.{Value}
use Rattle.smv_meaning.specs.declared.value.Given.{Given}
use Rattle.smv_items.specs.declared.items.ItemKind.{ItemKind}
use Rattle.smv_items.specs.declared.items.ItemKind.TheVariants as kind
use Rattle.smv_items.specs.FlatItems.{PlainFlatItem}
use Rattle.smv_numbered.specs.declared.heading.Heading.{Heading}
use Rattle.smv_numbered.specs.declared.heading.Heading.TheVariants.{State, Input}
use Rattle.smv_numbered.specs.declared.run.Change.{Change}

-- the variables that a heading states: a state gives a value to each state and frozen variable, a label to each input
abbrev pub picks : Heading → ItemKind → Bool
picks State kind.State = true
picks State kind.Frozen = true
picks Input kind.Input = true
picks heading k = false

abbrev pub given_if : Bool → List ℕ → Option Value → List Given
given_if true x (Some v) = record { name = x; value = v } ∷ []
given_if picked x v = []

-- the values of the variables of the heading, in order
abbrev pub values_of : Heading → List PlainFlatItem → List (Option Value) → List Given
values_of heading [] vs = []
values_of heading (m ∷ ms) [] = []
values_of heading (m ∷ ms) (v ∷ vs) = given_if (picks heading m.kind) m.name v ++ values_of heading ms vs

-- ---- changes

-- no value for any item
abbrev pub nothing_stated : {A : Type 0} → List A → List (Option Value)
nothing_stated items = replicate (length items) None

-- the last value of each item after these changes
abbrev pub stated_by : List (Option Value) → List Change → List (Option Value)
stated_by stated [] = stated
stated_by stated (c ∷ cs) = stated_by (slice_set stated c.item (Some c.value)) cs

abbrev pub stated_value : Option (Bor Value) → Option Value
stated_value None = None
stated_value (Some v) = Some v.now
