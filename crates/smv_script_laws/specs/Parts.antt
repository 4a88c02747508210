-- The parts of a script's formulas hold, in whatever order they stand.
use Rattle.std.specs.Prelude.{◌≡◌, ℕ, Some, slice_get}
use Rattle.std.specs.List.{AllByRecursion}
use Rattle.smv_text.specs.declared.tree.When.{When}
use Rattle.smv_items.specs.FlatItems.{PlainFlatItem}
use Rattle.smv_flat.specs.FlatForms.{Form, PlainFlat}
use Rattle.moxi_terms.specs.Value.{Calls, Values}
use Rattle.moxi_scripts.specs.Behaviour.{Holds}
use Rattle.smv_script.specs.Terms.{Coding}
use Rattle.smv_script.specs.Script.{item_parts, form_parts}

-- the parts of each item
abbrev pub ItemsHold : PlainFlat → Coding → When → Calls → Values → Values → Type 0
ItemsHold flat c when calls now later =
    (k : ℕ) (m : PlainFlatItem) → slice_get flat.items k ≡ Some m → AllByRecursion (Holds calls now later) (item_parts flat c when k m)

-- the parts of each formula of the flat form
abbrev pub FormsHold : PlainFlat → Coding → When → Calls → Values → Values → Type 0
FormsHold flat c when calls now later =
    (n : ℕ) (f : Form) → slice_get flat.forms n ≡ Some f → AllByRecursion (Holds calls now later) (form_parts c when f.role f.body)

pub record PartsHold (flat : PlainFlat) (c : Coding) (when : When) (calls : Calls) (now later : Values) : Type 0 where
  pub items : ItemsHold flat c when calls now later
  pub forms : FormsHold flat c when calls now later
