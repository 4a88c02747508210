-- What formulas say of values that are in lists.
use Rattle.std.specs.Prelude.{ℕ, Bool, List}
use Rattle.std.specs.List.{list_all}
use Rattle.smv_text.specs.declared.tree.When.{When}
use Rattle.smv_operators.specs.declared.seen.Seen.{Seen}
use Rattle.smv_flat.specs.FlatForms.{Form, PlainFlat}
use Rattle.smv_meaning.specs.Values.{Valuation}
use Rattle.smv_flat.specs.FlatTruth.{Row, IsRow, role_holds}
use Rattle.smv_flat_evaluation.specs.RowValues.{row_values, row_denote}
use Rattle.smv_flat_evaluation.specs.FlatSafety.{FormsSafe}
use Rattle.smv_items.specs.declared.items.FlatItem.{FlatItem}
use Rattle.smv_rows.specs.Places.{HavePlaces, IsGiven}
use Rattle.smv_rows.specs.declared.order.RowOrder.{RowOrder}
use Rattle.smv_flat.specs.declared.parts.FlatParts.{FlatParts}
use Rattle.smv_flat.specs.FlatParts.{parts_plain}

-- a formula, if it speaks of this time
abbrev pub row_role_holds : List (List ℕ) → When → (target now later : List Seen) → Form → Bool
row_role_holds symbols when target now later f = role_holds when (row_values target) f.role (row_denote symbols now later f.body)

abbrev pub row_forms_hold : List (List ℕ) → When → (target now later : List Seen) → List Form → Bool
row_forms_hold symbols when target now later fs = list_all (row_role_holds symbols when target now later) fs

-- ---- where each integer on the way fits 64 bits

-- of all formulas, in these values and those of the following state
abbrev pub AllSafe : FlatParts → (now later : List Seen) → Type 0
AllSafe flat now later = FormsSafe (parts_plain flat) (row_values now) (row_values later) (parts_plain flat).forms

-- in whatever row belongs to the state and the label
abbrev pub RowsAreSafe : PlainFlat → Valuation → Valuation → Type 0
RowsAreSafe flat state label = (row : Row) → IsRow flat state label row → FormsSafe flat row row flat.forms

-- ---- how a row is filled

-- whatever items the order is of, their variables are given
abbrev pub Gives : RowOrder → Valuation → Valuation → List Seen → Type 0
Gives order state label values = (items : List FlatItem) → HavePlaces order.names order.places.items items → IsGiven items state label values

-- the variables are those of a state and a label in whose rows all is safe
abbrev pub CanFill : FlatParts → List Seen → Type 0
CanFill flat values = (state : Valuation) × (label : Valuation) × IsGiven flat.items.now state label values × RowsAreSafe (parts_plain flat) state label

-- what was given the variables is filled to the row
abbrev pub Fills : FlatParts → (old new : List Seen) → Type 0
Fills flat old new = (state label : Valuation) → IsGiven flat.items.now state label old → IsRow (parts_plain flat) state label (row_values new)
