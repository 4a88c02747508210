-- The places of the variables of a script's system: its inputs, outputs and locals joined (MoXI, SPIN 2024).
use Rattle.std.specs.Prelude.{◌≡◌, ℕ, ◌<◌, List, ◌++◌, length, slice_get, Some}
use Rattle.moxi_terms.specs.declared.term.Variable.{Variable}
use Rattle.smv_items.specs.FlatItems.{PlainFlatItem}
use Rattle.smv_script.specs.Script.{inputs, outputs, locals, variable_of, variables_in, place_of_item}

-- the variables of the system, in its order
abbrev pub all_variables : ℕ → List PlainFlatItem → List Variable
all_variables width items = variables_in width inputs items ++ (variables_in width outputs items ++ variables_in width locals items)

-- at the place of an item stands its variable
abbrev pub HasPlace : Type 0
HasPlace = (width : ℕ) (items : List PlainFlatItem) (k : ℕ) (m : PlainFlatItem) → slice_get items k ≡ Some m
    → slice_get (all_variables width items) (place_of_item items k) ≡ Some (variable_of width m)

-- the variable is that of an item, which is there in the list of items
pub record IsOfItem (width : ℕ) (items : List PlainFlatItem) (v : ℕ) (x : Variable) : Type 0 where
  pub number : ℕ
  pub item : PlainFlatItem
  pub there : slice_get items number ≡ Some item
  pub place : place_of_item items number ≡ v
  pub same : x ≡ variable_of width item

abbrev pub IsPlaceOf : Type 0
IsPlaceOf = (width : ℕ) (items : List PlainFlatItem) (v : ℕ) (x : Variable) → slice_get (all_variables width items) v ≡ Some x → IsOfItem width items v x

-- two items have two places
abbrev pub PlacesDiffer : Type 0
PlacesDiffer = (items : List PlainFlatItem) (k l : ℕ) → k < length items → l < length items → place_of_item items k ≡ place_of_item items l → k ≡ l
