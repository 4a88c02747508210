-- What the code keeps of items while it numbers them.
use Rattle.std.specs.Prelude.{◌≡◌, ℕ, Bool, if◌then◌else◌, List, position, sum_by, Option, Some, None, is_none, not, ◌&&◌, ◌==◌, bytes_eq}
use Rattle.std.specs.Option.{option_or}
use Rattle.smv_text.specs.View.{plain, plain_domain}
use Rattle.smv_meaning.specs.Instances.{Instance}
use Rattle.smv_meaning.specs.Names.{dotted_at}
use Rattle.smv_items.specs.declared.origins.Content.{Content as Kept}
use Rattle.smv_items.specs.declared.origins.Content.TheVariants as OfContent
use Rattle.smv_items.specs.declared.origins.Origin.{Origin as StoredOrigin}
use Rattle.smv_text.specs.declared.tree.VarKind.{VarKind}
use Rattle.smv_text.specs.declared.tree.VarKind.TheVariants as OfVarKind
use Rattle.name_maps.specs.declared.rows.NameRows.{NameRows}
use Rattle.name_maps.specs.declared.instance_rows.InstanceRows.{InstanceRows}
use Rattle.name_maps.specs.Rows.{row_named, row_in}
use Rattle.smv_items.specs.declared.numbers.Leaf.{Leaf as KeptLeaf}
use Rattle.smv_items.specs.declared.numbers.Leaf.TheVariants as OfLeaf
use Rattle.smv_items.specs.declared.numbers.PathNumbers.{PathNumbers}
use Rattle.smv_items.specs.declared.numbers.VariableNumber.{VariableNumber}
use Rattle.smv_items.specs.declared.numbers.VariableNumber.TheVariants as OfNumber
use Rattle.smv_items.specs.declared.numbers.ItemNumbers.{ItemNumbers}
use Rattle.smv_items.specs.FlatItems.{Leaf, of_item, of_symbol, of_nothing, Content, variable, definition, actual, Origin, is_variable_as, is_body, path_of}

abbrev pub content_plain : Kept → Content
content_plain (OfContent.Variable kind d) = variable kind (plain_domain d.now)
content_plain (OfContent.Definition j e) = definition j (plain e.now)
content_plain (OfContent.Actual j e) = actual j (plain e.now)

abbrev pub content_or_none : Option Kept → Option Content
content_or_none None = None
content_or_none (Some c) = Some (content_plain c)

abbrev pub origin_plain : StoredOrigin → Origin
origin_plain m = record { instance = m.instance; name = m.name.now; content = content_plain m.content }

abbrev pub leaf_plain : KeptLeaf → Leaf
leaf_plain (OfLeaf.Item k) = of_item k
leaf_plain (OfLeaf.Symbol s) = of_symbol s
leaf_plain OfLeaf.Nothing = of_nothing

abbrev pub input_count : List Origin → ℕ
input_count ms = sum_by (λ m. if is_variable_as OfVarKind.Input m.content then 1 else 0) ms

-- ---- numbers

-- the definition or the actual of this name in the instance
abbrev pub is_body_at : ℕ → List ℕ → Origin → Bool
is_body_at i x o = is_body o.content && (o.instance == i && bytes_eq o.name x)

-- the number of a body is the place of the first that has its instance and its name
abbrev pub AreBodies : List Origin → InstanceRows ℕ → Type 0
AreBodies ms m = (i : ℕ) (x : List ℕ) → row_in m i x ≡ position (is_body_at i x) ms

-- that of a variable is the place of the first that has its dotted path, inputs apart
abbrev pub AreVariables : List Instance → VarKind → List Origin → NameRows ℕ → Type 0
AreVariables t kind ms m = (x : List ℕ) → row_named m x ≡ position (λ o. is_variable_as kind o.content && bytes_eq (path_of t o) x) ms

pub record ArePathNumbers (t : List Instance) (ms : List Origin) (ns : PathNumbers) : Type 0 where
  pub states : AreVariables t OfVarKind.State ms ns.states
  pub inputs : AreVariables t OfVarKind.Input ms ns.inputs

-- the number of an input, or of another variable, by its dotted path
abbrev pub path_number : PathNumbers → Bool → List ℕ → Option ℕ
path_number ns is_input x = row_named (if is_input then ns.inputs else ns.states) x

abbrev pub number_as : Bool → ℕ → VariableNumber
number_as is_input k = if is_input then OfNumber.Input k else OfNumber.State k

-- a number that is kept of an input, or of another variable
abbrev pub number_kept : Bool → Option VariableNumber → Option ℕ
number_kept is_input None = None
number_kept is_input (Some (OfNumber.State k)) = if is_input then None else Some k
number_kept is_input (Some (OfNumber.Input k)) = if is_input then Some k else None

-- where a number is kept by instance and name, it is that of the dotted path
abbrev pub AreInstanceNumbers : List Instance → PathNumbers → InstanceRows VariableNumber → Type 0
AreInstanceNumbers t ns m = (is_input : Bool) (i : ℕ) (x : List ℕ)
    → option_or (number_kept is_input (row_in m i x)) (path_number ns is_input (dotted_at t i x)) ≡ path_number ns is_input (dotted_at t i x)

pub record AreNumbers (t : List Instance) (ms : List Origin) (ns : ItemNumbers) : Type 0 where
  pub bodies : AreBodies ms ns.bodies
  pub paths : ArePathNumbers t ms ns.paths
  pub variables : AreInstanceNumbers t ns.paths ns.variables

-- ---- an item more is noted

-- a dotted path has this number, unless it has one
abbrev pub IsNoted : Bool → List ℕ → ℕ → (old new : NameRows ℕ) → Type 0
IsNoted is_one p k old new = (x : List ℕ) → row_named new x ≡ (if is_none (row_named old x) && (is_one && bytes_eq p x) then Some k else row_named old x)

pub record ArePathsNoted (is_input : Bool) (p : List ℕ) (k : ℕ) (old new : PathNumbers) : Type 0 where
  pub states : IsNoted (not is_input) p k old.states new.states
  pub inputs : IsNoted is_input p k old.inputs new.inputs

-- the item has the number k and this dotted path
pub record IsItemNoted (o : Origin) (p : List ℕ) (k : ℕ) (old new : ItemNumbers) : Type 0 where
  pub bodies : (i : ℕ) (x : List ℕ) → row_in new.bodies i x ≡ (if is_none (row_in old.bodies i x) && is_body_at i x o then Some k else row_in old.bodies i x)
  pub states : IsNoted (is_variable_as OfVarKind.State o.content) p k old.paths.states new.paths.states
  pub inputs : IsNoted (is_variable_as OfVarKind.Input o.content) p k old.paths.inputs new.paths.inputs
  pub variables : (t : List Instance) → p ≡ path_of t o → AreInstanceNumbers t old.paths old.variables → AreInstanceNumbers t new.paths new.variables
