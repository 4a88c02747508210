-- The run that changes state.
use Rattle.std.specs.Prelude.{ℕ, ◌≤◌, List, [], ◌∷◌, Option, length, map, take}
use Rattle.smv_meaning.specs.declared.value.Value.{Value}
use Rattle.smv_meaning.specs.declared.value.Given.{Given}
use Rattle.smv_meaning.specs.declared.value.Run.{Run}
use Rattle.smv_items.specs.FlatItems.{PlainFlatItem}
use Rattle.smv_numbered.specs.declared.heading.Heading.TheVariants.{State, Input}
use Rattle.smv_numbered.specs.declared.run.Change.{Change}
use Rattle.smv_numbered.specs.declared.run.NumberedRun.{NumberedRun}
use Rattle.smv_numbered.specs.Values.{values_of, nothing_stated, stated_by}

-- the last value of each item after the first n changes
abbrev pub stated_at : List PlainFlatItem → List Change → ℕ → List (Option Value)
stated_at items changes n = stated_by (nothing_stated items) (take n changes)

abbrev pub state_at : List PlainFlatItem → List Change → ℕ → List Given
state_at items changes n = values_of State items (stated_at items changes n)

abbrev pub label_at : List PlainFlatItem → List Change → ℕ → List Given
label_at items changes n = values_of Input items (stated_at items changes n)

abbrev pub behind_first : List ℕ → List ℕ
behind_first [] = []
behind_first (n ∷ ns) = ns

-- a state for each end, and a label for each end but the first
abbrev pub states_of : List PlainFlatItem → List Change → List ℕ → List (List Given)
states_of items changes ends = map (state_at items changes) ends

abbrev pub labels_of : List PlainFlatItem → List Change → List ℕ → List (List Given)
labels_of items changes ends = map (label_at items changes) (behind_first ends)

abbrev pub run_in : List PlainFlatItem → NumberedRun → Run
run_in items run = record { states = states_of items run.changes run.ends; labels = labels_of items run.changes run.ends }

-- each end is at most the next one, from the lowest to the highest number
abbrev pub IsRising : ℕ → List ℕ → ℕ → Type 0
IsRising low [] high = low ≤ high
IsRising low (n ∷ ns) high = (low ≤ n) × IsRising n ns high

-- no end is before another one, or past the changes
abbrev pub IsNumbered : NumberedRun → Type 0
IsNumbered run = IsRising 0 run.ends (length run.changes)
