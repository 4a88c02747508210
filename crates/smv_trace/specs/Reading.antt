-- What each line of a trace does, by where its reading stands.
use Rattle.std.specs.Prelude.{◌+◌, ◌*◌, ℕ, Bool, true, false, not, ◌&&◌, ◌||◌, nat_le, if◌then◌else◌, Option, Some, None, is_none, Result, Ok, List, [], ◌∷◌, ◌++◌, length, map, codes, decimal, slice_get, slice_set}
use Rattle.std.specs.List.{filter}
use Rattle.std.specs.Str.{bytes_eq}
use Rattle.text_core.specs.declared.place.Place.{Place}
use Rattle.text_core.specs.declared.place.Refusal.{Refusal}
use Rattle.smv_meaning.specs.declared.value.Value.{Value}
use Rattle.smv_meaning.specs.declared.value.Given.{Given}
use Rattle.smv_meaning.specs.declared.value.Run.{Run}
use Rattle.smv_items.specs.declared.items.ItemKind.{ItemKind}
use Rattle.smv_items.specs.declared.items.ItemKind.TheVariants as kind
use Rattle.smv_items.specs.FlatItems.{PlainFlatItem}
use Rattle.name_maps.specs.Names.{place_of}
use Rattle.text_core.specs.Places.{start}
use Rattle.smv_numbered.specs.declared.heading.Heading.{Heading}
use Rattle.smv_numbered.specs.declared.heading.Heading.TheVariants.{State, Input}
use Rattle.smv_numbered.specs.Values.{picks, values_of, nothing_stated}
use Rattle.smv_numbered.specs.Stated.{Declarations}
use Rattle.smv_trace_text.specs.Lines.{is_passed, heading_numbers, value_parts}
use Rattle.smv_trace.specs.Values.{value_of}
use Rattle.text_core.specs.Bytes.{is_empty}
use Rattle.text_core.specs.Answers.{go_on, refused}

-- where the reading stands: the last heading and its place, the first number of the headings, the last value that is stated for
-- each item, and the states and labels that are whole
pub record Reading : Type 0 where
  pub heading : Option Heading
  pub place : Place
  pub first : List ℕ
  pub stated : List (Option Value)
  pub states : List (List Given)
  pub labels : List (List Given)

-- ---- states and labels

-- a variable of the heading has no value yet
abbrev pub lacks : Heading → List PlainFlatItem → List (Option Value) → Bool
lacks heading [] vs = false
lacks heading (m ∷ ms) [] = false
lacks heading (m ∷ ms) (v ∷ vs) = (picks heading m.kind && is_none v) || lacks heading ms vs

-- a value is missing of the state, or of the label that leads to it where it isn't the first
abbrev pub lacks_state : Declarations → Reading → Bool
lacks_state d r = lacks State d.items r.stated || (not (is_empty r.states) && lacks Input d.items r.stated)

-- with the state, and with the label that leads to it
abbrev pub labels_on : Declarations → Reading → List (List Given)
labels_on d r = if is_empty r.states then r.labels else r.labels ++ values_of Input d.items r.stated ∷ []

abbrev pub with_state : Declarations → Reading → Reading
with_state d r = record {
  heading = r.heading;
  place = r.place;
  first = r.first;
  stated = r.stated;
  states = r.states ++ values_of State d.items r.stated ∷ [];
  labels = labels_on d r;
}

-- the lines of a heading end, where nothing or a heading of this kind comes behind. Missing values are refused at their own
-- heading; a label is tested where its state begins, so that one without a state is dropped.
abbrev pub ended : Declarations → Heading → Option Heading → Reading → Result Reading Refusal
ended d next None r = Ok r
ended d next (Some State) r = if lacks_state d r then refused 4 r.place else Ok (with_state d r)
ended d State (Some Input) r = if lacks Input d.items r.stated then refused 4 r.place else Ok r
ended d Input (Some Input) r = Ok r

-- ---- headings

-- the most states of a trace
abbrev pub most_states : ℕ
most_states = 100000

-- the most that the states times the variables may be
abbrev pub most_values : ℕ
most_values = 4000000

abbrev pub is_variable : PlainFlatItem → Bool
is_variable m = picks State m.kind || picks Input m.kind

abbrev pub variables_of : List PlainFlatItem → List PlainFlatItem
variables_of items = filter is_variable items

-- may a trace have n states? Inputs count as variables.
abbrev pub is_within : Declarations → ℕ → Bool
is_within d n = nat_le n most_states && nat_le (n * length (variables_of d.items)) most_values

-- The first number is that of the other headings. The second is the number of the state, from 1 on, or of the state to which
-- the label leads.
abbrev pub is_numbered : Reading → List ℕ × List ℕ → Bool
is_numbered r p = (is_none r.heading || bytes_eq p.0 r.first) && bytes_eq p.1 (decimal (length r.states + 1))

abbrev pub is_allowed : Declarations → Heading → Reading → Bool
is_allowed d State r = is_within d (length r.states + 1)
is_allowed d Input r = true

-- the heading, behind whatever it ends
abbrev pub begun : Declarations → Heading → Place → List ℕ × List ℕ → Reading → Result Reading Refusal
begun d next at p r =
    if is_numbered r p
    then (if is_allowed d next r then Ok (record { heading = Some next; place = at; first = p.0; stated = r.stated; states = r.states; labels = r.labels }) else refused 5 at)
    else refused 1 at

abbrev pub heading_line : Declarations → Heading → Place → List ℕ × List ℕ → Reading → Result Reading Refusal
heading_line d next at p r = go_on (ended d next r.heading r) (begun d next at p)

-- ---- values

abbrev pub is_define : ItemKind → Bool
is_define kind.Define = true
is_define k = false

abbrev pub with_value : Place → ℕ → Reading → Option Value → Result Reading Refusal
with_value at k r None = refused 3 at
with_value at k r (Some v) = Ok (record { heading = r.heading; place = r.place; first = r.first; stated = slice_set r.stated k (Some v); states = r.states; labels = r.labels })

-- a definition is passed over, and an actual is no name of a trace
abbrev pub item_line : Declarations → Heading → Place → List ℕ → ℕ → Reading → Option PlainFlatItem → Result Reading Refusal
item_line d heading at text k r None = refused 2 at
item_line d heading at text k r (Some m) =
    if is_define m.kind then Ok r else (if picks heading m.kind then with_value at k r (value_of d.symbols m.type text) else refused 2 at)

abbrev pub placed_line : Declarations → Heading → Place → List ℕ → Reading → Option ℕ → Result Reading Refusal
placed_line d heading at text r None = refused 2 at
placed_line d heading at text r (Some k) = item_line d heading at text k r (slice_get d.items k)

abbrev pub value_line : Declarations → Heading → Place → List ℕ × List ℕ → Reading → Result Reading Refusal
value_line d heading at p r = placed_line d heading at p.1 r (place_of (map (λ m. m.name) d.items) p.0)

-- ---- lines

abbrev pub value_step : Declarations → Heading → Place → Reading → Option (List ℕ × List ℕ) → Result Reading Refusal
value_step d heading at r None = refused 1 at
value_step d heading at r (Some p) = value_line d heading at p r

abbrev pub label_step : Declarations → Heading → Place → List ℕ → Reading → Option (List ℕ × List ℕ) → Result Reading Refusal
label_step d heading at line r None = value_step d heading at r (value_parts line)
label_step d heading at line r (Some p) = heading_line d Input at p r

-- before the first state all other lines are passed over
abbrev pub other_step : Declarations → Place → List ℕ → Reading → Option Heading → Result Reading Refusal
other_step d at line r None = Ok r
other_step d at line r (Some heading) = label_step d heading at line r (heading_numbers (codes "Input:") line)

abbrev pub state_step : Declarations → Place → List ℕ → Reading → Option (List ℕ × List ℕ) → Result Reading Refusal
state_step d at line r None = other_step d at line r r.heading
state_step d at line r (Some p) = heading_line d State at p r

-- what a line at this place does, without the blanks around it
unfoldable pub step : Declarations → Place → List ℕ → Reading → Result Reading Refusal
step d at line r = if is_passed line then Ok r else state_step d at line r (heading_numbers (codes "State:") line)

-- ---- the end

abbrev pub run_of : Reading → Result Run Refusal
run_of r = Ok (record { states = r.states; labels = r.labels })

-- what the text comes to at its end, which is refused where there is no state at all
abbrev pub finished_at : Declarations → Place → Option Heading → Reading → Result Run Refusal
finished_at d end None r = refused 1 end
finished_at d end (Some heading) r = go_on (ended d Input (Some heading) r) run_of

unfoldable pub finished : Declarations → Place → Reading → Result Run Refusal
finished d end r = finished_at d end r.heading r

-- nothing is read
abbrev pub begin : Declarations → Reading
begin d = record { heading = None; place = start; first = []; stated = nothing_stated d.items; states = []; labels = [] }
