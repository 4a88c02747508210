-- The parts of the formulas of a system, as the code collects them.
use Rattle.std.specs.Prelude.{ℕ, ◌+◌, ◌==◌, if◌then◌else◌, false, List, [], ◌∷◌, ◌++◌}
use Rattle.smv_text.specs.declared.tree.When.{When}
use Rattle.smv_items.specs.declared.items.FlatItem.{FlatItem}
use Rattle.smv_items.specs.FlatItems.{PlainFlatItem}
use Rattle.smv_flat.specs.declared.forms.FlatFormula.{FlatFormula}
use Rattle.smv_flat.specs.declared.forms.Role.{Role}
use Rattle.smv_flat.specs.declared.forms.Role.TheVariants.{Body}
use Rattle.smv_flat.specs.FlatForms.{Form}
use Rattle.smv_flat.specs.FlatTree.{FlatTree}
use Rattle.moxi_terms.specs.Tree.{Tree, variable}
use Rattle.smv_script.specs.Script.{form_parts}
use Rattle.smv_script.specs.Terms.{Coding, translation}
use Rattle.moxi_terms.specs.Applications.{equal_term}

-- the parts that belong to a number
abbrev pub owned_by : ℕ → List (ℕ × List Tree) → List Tree
owned_by i [] = []
owned_by i (x ∷ xs) = (if x.0 == i then x.1 else []) ++ owned_by i xs

-- the number of the item of which a formula is the body; of another formula this number, which no item has
abbrev pub body_number : ℕ → Role → ℕ
body_number none (Body k) = k
body_number none r = none

abbrev pub body_number_of : ℕ → FlatFormula → ℕ
body_number_of none f = body_number none f.role

-- the equation of a body
abbrev pub body_equation : Coding → Role → FlatTree → List Tree
body_equation c (Body k) e = equal_term (variable (c.place k) false) ((translation c e).term 0) ∷ []
body_equation c r e = []

abbrev pub body_owned : ℕ → Coding → Form → ℕ × List Tree
body_owned none c f = (body_number none f.role, body_equation c f.role f.body)

-- for each item the number of its instance, and its parts
abbrev pub item_owned : (ℕ → PlainFlatItem → List Tree) → ℕ → List PlainFlatItem → List (ℕ × List Tree)
item_owned part k [] = []
item_owned part k (m ∷ ms) = (m.instance, part k m) ∷ item_owned part (k + 1) ms

abbrev pub item_number : FlatItem → ℕ
item_number m = m.instance

abbrev pub form_owned : Coding → When → Form → ℕ × List Tree
form_owned c when f = (f.instance, form_parts c when f.role f.body)

abbrev pub form_number : FlatFormula → ℕ
form_number f = f.instance
