-- Where the reading stands, with stated values by the numbers of their items.
use Rattle.std.specs.Prelude.{◌≡◌, ℕ, Bool, false, not, ◌&&◌, ◌||◌, Option, None, is_some, List, [], ◌∷◌, length, map}
use Rattle.text_core.specs.declared.place.Place.{Place}
use Rattle.text_core.specs.Places.{start}
use Rattle.smv_meaning.specs.declared.value.Value.{Value}
use Rattle.smv_items.specs.FlatItems.{PlainFlatItem}
use Rattle.smv_numbered.specs.declared.heading.Heading.{Heading}
use Rattle.smv_numbered.specs.declared.run.Change.{Change}
use Rattle.smv_numbered.specs.Values.{picks, nothing_stated, stated_by}
use Rattle.smv_numbered.specs.Runs.{states_of, labels_of, IsRising}
use Rattle.smv_numbered.specs.Stated.{Declarations}
use Rattle.smv_trace.specs.Reading.{Reading}

-- what the text is read against, the last heading and its place, the first number of the headings, the values that are stated,
-- and for each state the number of those up to its end
pub record Numbering : Type 0 where
  pub table : Declarations
  pub heading : Option Heading
  pub place : Place
  pub first : List ℕ
  pub changes : List Change
  pub ends : List ℕ

-- the last value that is stated for each item
abbrev pub stated_in : Numbering → List (Option Value)
stated_in r = stated_by (nothing_stated r.table.items) r.changes

abbrev pub reading_of : Numbering → Reading
reading_of r = record {
  heading = r.heading;
  place = r.place;
  first = r.first;
  stated = stated_in r;
  states = states_of r.table.items r.changes r.ends;
  labels = labels_of r.table.items r.changes r.ends;
}

-- nothing is read
abbrev pub begun_with : Declarations → Numbering
begun_with d = record { table = d; heading = None; place = start; first = []; changes = []; ends = [] }

-- ---- which items have a value

-- a variable of the heading has no value yet, by the items that have one
abbrev pub lacks_known : Heading → List PlainFlatItem → List Bool → Bool
lacks_known heading [] known = false
lacks_known heading (m ∷ ms) [] = false
lacks_known heading (m ∷ ms) (k ∷ ks) = (picks heading m.kind && not k) || lacks_known heading ms ks

-- the list says which items have a value, and no end is before another one
pub record IsKept (items : List PlainFlatItem) (known : List Bool) (changes : List Change) (ends : List ℕ) : Type 0 where
  pub known_are : known ≡ map is_some (stated_by (nothing_stated items) changes)
  pub rising : IsRising 0 ends (length changes)
