-- States and labels whose values are in the order of the items.
use Rattle.std.specs.Prelude.{◌≡◌, Bool, true, false, ◌&&◌, List, [], ◌∷◌, map}
use Rattle.std.specs.List.{filter}
use Rattle.std.specs.Str.{bytes_eq}
use Rattle.name_maps.specs.Tables.{AreDistinct}
use Rattle.smv_meaning.specs.declared.value.Value.{Value}
use Rattle.smv_meaning.specs.declared.value.Given.{Given}
use Rattle.smv_meaning.specs.Values.{no_value}
use Rattle.smv_items.specs.declared.items.ItemKind.{ItemKind}
use Rattle.smv_items.specs.declared.items.ItemKind.TheVariants.{State, Frozen, Input, Define, Actual}
use Rattle.smv_items.specs.FlatItems.{PlainFlatItem}
use Rattle.smv_rows.specs.RowOrders.{is_input}

-- a state has a value for each item of these kinds, a label for each input
abbrev pub is_in_state : ItemKind → Bool
is_in_state State = true
is_in_state Frozen = true
is_in_state Input = false
is_in_state Define = false
is_in_state Actual = false

-- the names of these items, one after another, and no others
abbrev pub are_named_after : List PlainFlatItem → List Given → Bool
are_named_after [] [] = true
are_named_after (m ∷ ms) (g ∷ gs) = bytes_eq m.name g.name && are_named_after ms gs
are_named_after ms gs = false

abbrev pub lists_state : List PlainFlatItem → List Given → Bool
lists_state items gs = are_named_after (filter (λ m. is_in_state m.kind) items) gs

abbrev pub lists_label : List PlainFlatItem → List Given → Bool
lists_label items gs = are_named_after (filter (λ m. is_input m.kind) items) gs

-- no two items have one name, and the state and the label name their variables in the order of the items
pub record AreListed (items : List PlainFlatItem) (state label : List Given) : Type 0 where
  pub apart : AreDistinct (map (λ m. m.name) items)
  pub in_state : lists_state items state ≡ true
  pub in_label : lists_label items label ≡ true

-- ---- values in order

abbrev pub first_given : List Given → Value
first_given [] = no_value
first_given (g ∷ gs) = g.value

abbrev pub behind_first : List Given → List Given
behind_first [] = []
behind_first (g ∷ gs) = gs

-- the value of an item, and what is left of the state and of the label behind it
abbrev pub next_value : ItemKind → List Given → List Given → Value
next_value State s l = first_given s
next_value Frozen s l = first_given s
next_value Input s l = first_given l
next_value Define s l = no_value
next_value Actual s l = no_value

abbrev pub state_left : ItemKind → List Given → List Given
state_left State s = behind_first s
state_left Frozen s = behind_first s
state_left Input s = s
state_left Define s = s
state_left Actual s = s

abbrev pub label_left : ItemKind → List Given → List Given
label_left State l = l
label_left Frozen l = l
label_left Input l = behind_first l
label_left Define l = l
label_left Actual l = l

-- the value of each item, taken from a state and a label from the front on
abbrev pub listed_values : List ItemKind → List Given → List Given → List Value
listed_values [] s l = []
listed_values (k ∷ ks) s l = next_value k s l ∷ listed_values ks (state_left k s) (label_left k l)
