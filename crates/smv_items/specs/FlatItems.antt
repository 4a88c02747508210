-- The items and the symbols of a model, numbered in their order: instances in preorder, in each first the actuals that are no
-- paths, then its own variables and definitions in the order of the text.
use Rattle.std.specs.Prelude.{ℕ, Bool, true, false, ◌&&◌, ◌||◌, ◌==◌, not, if◌then◌else◌, List, [], ◌∷◌, ◌++◌, map, position, flat_map, Option, Some, None, bytes_eq}
use Rattle.smv_text.specs.declared.tree.Path.{Path}
use Rattle.smv_text.specs.declared.tree.Member.{Member}
use Rattle.smv_text.specs.declared.tree.Member.TheVariants as OfMember
use Rattle.smv_text.specs.declared.tree.Parameter.{Parameter}
use Rattle.smv_text.specs.declared.tree.VarKind.{VarKind}
use Rattle.smv_text.specs.declared.tree.VarKind.TheVariants as OfVarKind
use Rattle.smv_text.specs.Tree.{Tree, name, Trees, no_trees, tree, PlainDomain, members, instance, PlainItem, PlainDefinition, PlainElement, vars, defines, constants}
use Rattle.smv_meaning.specs.Instances.{Instance, is_one_of}
use Rattle.smv_meaning.specs.Names.{parent_of, Found, variable_at, body_at, symbol_of, found_in, dotted_at}
use Rattle.smv_meaning.specs.Meaning.{is_input}
use Rattle.smv_meaning.specs.Types.{ExprType, truth_type}
use Rattle.smv_meaning.specs.Checks.{typing, variable_type}
use Rattle.smv_meaning.specs.Naming.{in_body}
use Rattle.smv_meaning.specs.Phases.{over_instances}
use Rattle.smv_meaning.specs.Settled.{types_in}
use Rattle.smv_items.specs.declared.items.ItemKind.{ItemKind}
use Rattle.smv_items.specs.declared.items.ItemKind.TheVariants.{State, Frozen, Input, Define, Actual}

-- ---- where items come from

-- a variable, or a body with the number of the instance in which it is read
pub data Content : Type 0 where
  variable : VarKind → PlainDomain → Content
  definition : ℕ → Tree → Content
  actual : ℕ → Tree → Content

-- an item by its instance and its name there
pub record Origin : Type 0 where
  pub instance : ℕ
  pub name : List ℕ
  pub content : Content

abbrev pub with_content : ℕ → List ℕ → Option Content → List Origin
with_content i x None = []
with_content i x (Some c) = record { instance = i; name = x; content = c } ∷ []

-- an actual that is a path is no item
abbrev pub actual_content : ℕ → Tree → Option Content
actual_content j (name p x) = None
actual_content j e = Some (actual j e)

abbrev pub actual_items : ℕ → ℕ → List Parameter → Trees → List Origin
actual_items i j [] es = []
actual_items i j (q ∷ qs) no_trees = []
actual_items i j (q ∷ qs) (tree e es) = with_content i q.name (actual_content j e) ++ actual_items i j qs es

abbrev pub domain_content : VarKind → PlainDomain → Option Content
domain_content kind (instance m es) = None
domain_content kind d = Some (variable kind d)

abbrev pub variable_item : ℕ → VarKind → PlainItem → List Origin
variable_item i kind v = with_content i v.name (domain_content kind v.domain)

abbrev pub definition_item : ℕ → PlainDefinition → Origin
definition_item i d = record { instance = i; name = d.name; content = definition i d.body }

abbrev pub element_items : ℕ → PlainElement → List Origin
element_items i (vars kind items) = flat_map (variable_item i kind) items
element_items i (defines ds) = map (definition_item i) ds
element_items i e = []

abbrev pub items_here : ℕ → Instance → List Origin
items_here i at = actual_items i (parent_of at) at.module.parameters at.actuals ++ flat_map (element_items i) at.module.elements

abbrev pub origins_of : List Instance → List Origin
origins_of t = over_instances items_here 0 t

-- ---- symbols: each at its first place

abbrev pub member_symbols : Member → List (List ℕ)
member_symbols (OfMember.Symbol s) = s ∷ []
member_symbols (OfMember.Integer z) = []

abbrev pub domain_symbols : PlainDomain → List (List ℕ)
domain_symbols (members ms) = flat_map member_symbols ms
domain_symbols d = []

abbrev pub element_symbols : PlainElement → List (List ℕ)
element_symbols (vars kind items) = flat_map (λ v. domain_symbols v.domain) items
element_symbols (constants names) = names
element_symbols e = []

-- the list with each name that isn't in it yet
abbrev pub gathered : List (List ℕ) → List (List ℕ) → List (List ℕ)
gathered seen [] = seen
gathered seen (x ∷ xs) = gathered (if is_one_of seen x then seen else seen ++ x ∷ []) xs

abbrev pub symbols_of : List Instance → List (List ℕ)
symbols_of t = gathered [] (flat_map (λ at. flat_map element_symbols at.module.elements) t)

-- ---- numbers

abbrev pub is_variable_as : VarKind → Content → Bool
is_variable_as kind (variable k d) = (is_input kind && is_input k) || (not (is_input kind) && not (is_input k))
is_variable_as kind c = false

abbrev pub is_body : Content → Bool
is_body (variable kind d) = false
is_body (definition j e) = true
is_body (actual j e) = true

abbrev pub path_of : List Instance → Origin → List ℕ
path_of t m = dotted_at t m.instance m.name

-- what a path becomes
pub data Leaf : Type 0 where
  of_item : ℕ → Leaf
  of_symbol : ℕ → Leaf
  of_nothing : Leaf  -- no path of an accepted model

-- the item is what a path leads to: a variable by its dotted path, a body by its instance and its name
abbrev pub is_item : List Instance → Found → Origin → Bool
is_item t (variable_at x kind d) m = is_variable_as kind m.content && bytes_eq (path_of t m) x
is_item t (body_at i x j e) m = is_body m.content && (m.instance == i && bytes_eq m.name x)
is_item t f m = false

abbrev pub item_leaf : Option ℕ → Leaf
item_leaf None = of_nothing
item_leaf (Some k) = of_item k

abbrev pub symbol_leaf : Option ℕ → Leaf
symbol_leaf None = of_nothing
symbol_leaf (Some s) = of_symbol s

abbrev pub leaf_found : List Instance → Found → Leaf
leaf_found t (variable_at x kind d) = item_leaf (position (is_item t (variable_at x kind d)) (origins_of t))
leaf_found t (body_at i x j e) = item_leaf (position (is_item t (body_at i x j e)) (origins_of t))
leaf_found t (symbol_of x) = symbol_leaf (position (bytes_eq x) (symbols_of t))
leaf_found t f = of_nothing

-- what a path in the numbered instance becomes
abbrev pub leaf_in : List Instance → ℕ → Path → Leaf
leaf_in t i q = leaf_found t (found_in t i q)

-- ---- items

abbrev pub kind_of : Content → ItemKind
kind_of (variable OfVarKind.State d) = State
kind_of (variable OfVarKind.Frozen d) = Frozen
kind_of (variable OfVarKind.Input d) = Input
kind_of (definition j e) = Define
kind_of (actual j e) = Actual

abbrev pub content_type : List Instance → Content → Option ExprType
content_type t (variable kind d) = variable_type d
content_type t (definition j e) = (typing (types_in true t j) in_body e).type
content_type t (actual j e) = (typing (types_in true t j) in_body e).type

abbrev pub type_or_truth : Option ExprType → ExprType
type_or_truth None = truth_type
type_or_truth (Some t) = t

abbrev pub domain_members : PlainDomain → List Member
domain_members (members ms) = ms
domain_members d = []

abbrev pub content_members : Content → List Member
content_members (variable kind d) = domain_members d
content_members c = []

-- a variable, a definition or an actual: its dotted path, its instance, its kind, its type, and the members of an enumeration
pub record PlainFlatItem : Type 0 where
  pub name : List ℕ
  pub instance : ℕ
  pub kind : ItemKind
  pub type : ExprType
  pub members : List Member

abbrev pub flat_item_of : List Instance → Origin → PlainFlatItem
flat_item_of t m = record {
  name = path_of t m;
  instance = m.instance;
  kind = kind_of m.content;
  type = type_or_truth (content_type t m.content);
  members = content_members m.content;
}
