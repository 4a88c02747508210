-- Names of items by their places, and the values that states and labels give.
use Rattle.std.specs.Prelude.{◌≡◌, ℕ, Bool, true, List, map, length, Option, Some, option_map, is_some, slice_get}
use Rattle.std.specs.List.{list_all}
use Rattle.name_maps.specs.Names.{place_of}
use Rattle.smv_meaning.specs.declared.value.Value.{Value}
use Rattle.smv_meaning.specs.Values.{Valuation, no_value}
use Rattle.smv_operators.specs.declared.seen.Seen.{Seen}
use Rattle.smv_items.specs.declared.items.ItemKind.{ItemKind}
use Rattle.smv_items.specs.declared.items.ItemKind.TheVariants.{State, Frozen, Input, Define, Actual}
use Rattle.smv_items.specs.declared.items.FlatItem.{FlatItem}
use Rattle.smv_items.specs.FlatItemView.{item_plain}
use Rattle.smv_flat.specs.FlatTruth.{GivesItem}
use Rattle.smv_flat_evaluation.specs.RowValues.{row_values}
use Rattle.smv_rows.specs.declared.places.ItemPlace.{ItemPlace}

abbrev pub kind_and_place : ItemPlace → ItemKind × Option ℕ
kind_and_place i = (i.kind, Some i.place)

abbrev pub item_place : List (List ℕ) → FlatItem → ItemKind × Option ℕ
item_place names m = (m.kind, place_of names m.name)

-- what each item is, and the place of its name
abbrev pub HavePlaces : List (List ℕ) → List ItemPlace → List FlatItem → Type 0
HavePlaces names places items = map kind_and_place places ≡ map (item_place names) items

-- each name has, at its place, the value that the state gives it
abbrev pub NamesHave : List (List ℕ) → Valuation → List Seen → Type 0
NamesHave names state values = (x : List ℕ) (p : ℕ) → place_of names x ≡ Some p → row_values values p ≡ state x

-- a variable's value in a state or, as an input, in a label, by the place of its name
abbrev pub value_of_kind : List Seen → List Seen → ℕ → ItemKind → Value
value_of_kind state label p State = row_values state p
value_of_kind state label p Frozen = row_values state p
value_of_kind state label p Input = row_values label p
value_of_kind state label p Define = no_value
value_of_kind state label p Actual = no_value

abbrev pub given_value : List Seen → List Seen → ItemPlace → Value
given_value state label i = value_of_kind state label i.place i.kind

-- ---- names that were declared

abbrev pub is_named : List (List ℕ) → FlatItem → Bool
is_named names m = is_some (place_of names m.name)

abbrev pub AreNamed : List (List ℕ) → List FlatItem → Type 0
AreNamed names items = list_all (is_named names) items ≡ true

-- ---- values of variables

-- each variable has the value that the state or, as an input, the label gives it
pub record IsGiven (items : List FlatItem) (state label : Valuation) (values : List Seen) : Type 0 where
  pub size : length values ≡ length items
  pub variables : (k : ℕ) → GivesItem state label (row_values values k) (option_map item_plain (slice_get items k))
