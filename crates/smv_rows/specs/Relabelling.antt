-- Rows of one state under two labels.
use Rattle.std.specs.Prelude.{◌≡◌, if◌then◌else◌, List, length, Option, Some, None}
use Rattle.smv_meaning.specs.declared.value.Value.{Value}
use Rattle.smv_meaning.specs.Values.{Valuation}
use Rattle.smv_operators.specs.declared.seen.Seen.{Seen}
use Rattle.smv_items.specs.declared.items.FlatItem.{FlatItem}
use Rattle.smv_flat.specs.FlatTruth.{IsRow}
use Rattle.smv_flat_evaluation.specs.RowValues.{row_values}
use Rattle.smv_flat.specs.FlatParts.{parts_plain}
use Rattle.smv_rows.specs.Places.{IsGiven}
use Rattle.smv_rows.specs.RowOrders.{is_input}
use Rattle.smv_rows.specs.Truths.{RowsAreSafe}
use Rattle.smv_flat.specs.declared.parts.FlatParts.{FlatParts}

-- the first value for an input, else the second
abbrev pub input_or : Option FlatItem → Value → Value → Value
input_or None v w = w
input_or (Some m) v w = if is_input m.kind then v else w

-- the values are those of a row of a state, the other ones have the inputs of a label, and in each row of both all is safe
pub record CanRelabel (flat : FlatParts) (values other : List Seen) : Type 0 where
  pub size : length values ≡ length flat.items.now
  pub state : Valuation
  pub before : Valuation
  pub label : Valuation
  pub after : Valuation
  pub row : IsRow (parts_plain flat) state before (row_values values)
  pub given : IsGiven flat.items.now after label other
  pub safe : RowsAreSafe (parts_plain flat) state label

-- whatever label the other values have the inputs of, a row of a state becomes the row of the state under this label
abbrev pub Relabels : FlatParts → (old other new : List Seen) → Type 0
Relabels flat old other new = (state before label after : Valuation) → IsRow (parts_plain flat) state before (row_values old) → IsGiven flat.items.now after label other
    → IsRow (parts_plain flat) state label (row_values new)
