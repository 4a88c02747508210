-- Orders of a flat form's items in which each body is after the items that it reads.
use Rattle.std.specs.Prelude.{◌≡◌, ◌⊎◌, ℕ, Bool, true, false, not, ◌&&◌, nat_lt, List, [], ◌∷◌, ◌++◌, map, flat_map, length, position, Option, Some, None, slice_get}
use Rattle.std.specs.List.{list_all, AllByRecursion}
use Rattle.digraph.specs.Graph.{is_in, are_distinct}
use Rattle.smv_text.specs.Tree.{PlainSource}
use Rattle.smv_meaning.specs.Instances.{Instance, instances_of}
use Rattle.smv_meaning.specs.Phases.{Body as BodyKey, IsAccepted}
use Rattle.smv_meaning.specs.Bodies.{bodies_of, IsBodyOrder}
use Rattle.smv_items.specs.declared.items.ItemKind.{ItemKind}
use Rattle.smv_items.specs.declared.items.ItemKind.TheVariants.{State, Frozen, Input, Define, Actual}
use Rattle.smv_items.specs.FlatItems.{origins_of}
use Rattle.smv_items.specs.FlatOrigins.{is_body_at}
use Rattle.smv_flat.specs.FlatTree.{FlatTree, flat_truth, flat_number, flat_literal, flat_symbol, flat_item, flat_prefix, flat_chain, flat_choice, flat_cases, flat_select, flat_call, flat_set, flat_range, FlatLinks, no_flat_links, flat_link, FlatBranches, no_flat_branches, flat_branch, FlatTrees, no_flat_trees, flat_tree_then}
use Rattle.smv_flat.specs.declared.forms.Role.{Role}
use Rattle.smv_flat.specs.declared.forms.Role.TheVariants.{Body}
use Rattle.smv_flat.specs.FlatForms.{Form, PlainFlat, flat_smv}

-- ---- what an expression reads

-- each item that is in it passes the test
abbrev mutual
  pub all_read : (ℕ → Bool) → FlatTree → Bool
  all_read test (flat_truth t b) = true
  all_read test (flat_number t n) = true
  all_read test (flat_literal t w) = true
  all_read test (flat_symbol t s) = true
  all_read test (flat_item t k under) = test k
  all_read test (flat_prefix t sign n e) = all_read test e
  all_read test (flat_chain t e ls) = all_read test e && links_read test ls
  all_read test (flat_choice t bs e) = branches_read test bs && all_read test e
  all_read test (flat_cases t bs) = branches_read test bs
  all_read test (flat_select t e high low) = all_read test e
  all_read test (flat_call t f es) = trees_read test es
  all_read test (flat_set t es) = trees_read test es
  all_read test (flat_range t low high) = true

  pub links_read : (ℕ → Bool) → FlatLinks → Bool
  links_read test no_flat_links = true
  links_read test (flat_link op e ls) = all_read test e && links_read test ls

  pub branches_read : (ℕ → Bool) → FlatBranches → Bool
  branches_read test no_flat_branches = true
  branches_read test (flat_branch c e rest) = all_read test c && (all_read test e && branches_read test rest)

  pub trees_read : (ℕ → Bool) → FlatTrees → Bool
  trees_read test no_flat_trees = true
  trees_read test (flat_tree_then e es) = all_read test e && trees_read test es

-- ---- bodies

-- the body of each item that has one
abbrev pub Bodies : Type 0
Bodies = ℕ → Option FlatTree

-- each item that a body reads, where there is one, passes the test
abbrev pub body_reads : (ℕ → Bool) → Option FlatTree → Bool
body_reads test None = true
body_reads test (Some e) = all_read test e

-- the body of an item is among the formulas
abbrev pub IsAmong : ℕ → FlatTree → List Form → Type 0
IsAmong k e [] = ⊥
IsAmong k e (f ∷ fs) = ((f.role ≡ Body k) × (f.body ≡ e)) ⊎ IsAmong k e fs

-- no body comes from elsewhere
abbrev pub ComeFrom : Bodies → List Form → Type 0
ComeFrom bodies fs = (k : ℕ) (e : FlatTree) → bodies k ≡ Some e → IsAmong k e fs

abbrev pub role_number : Role → List ℕ
role_number (Body k) = k ∷ []
role_number r = []

-- the items of which there are bodies
abbrev pub body_numbers : List Form → List ℕ
body_numbers [] = []
body_numbers (f ∷ fs) = role_number f.role ++ body_numbers fs

abbrev pub is_variable : ItemKind → Bool
is_variable State = true
is_variable Frozen = true
is_variable Input = true
is_variable Define = false
is_variable Actual = false

-- an item that may have a body is there and is no variable
abbrev pub holds_body : Option ItemKind → Bool
holds_body None = false
holds_body (Some kind) = not (is_variable kind)

-- the item of a body is a definition or an actual
abbrev pub RoleHolds : List ItemKind → Role → Type 0
RoleHolds kinds (Body k) = holds_body (slice_get kinds k) ≡ true
RoleHolds kinds r = Unit {0}

abbrev pub FormHolds : List ItemKind → Form → Type 0
FormHolds kinds f = RoleHolds kinds f.role

-- ---- orders

-- each item stands once, and no body reads its own item or one that is behind it
abbrev pub is_settled : Bodies → List ℕ → Bool
is_settled bodies [] = true
is_settled bodies (k ∷ ks) = body_reads (λ m. not (is_in (k ∷ ks) m)) (bodies k) && (not (is_in ks k) && is_settled bodies ks)

-- each item with a body is in the order
abbrev pub AllOccur : Bodies → List ℕ → Type 0
AllOccur bodies order = (k : ℕ) (e : FlatTree) → bodies k ≡ Some e → is_in order k ≡ true

-- an order of items in which each body is after the items that it reads, whichever of the formulas are the bodies; only
-- definitions and actuals have bodies, and none has two
pub record IsItemOrder (flat : PlainFlat) (order : List ℕ) : Type 0 where
  pub within : list_all (λ k. nat_lt k (length flat.items)) order ≡ true
  pub settled : (bodies : Bodies) → ComeFrom bodies flat.forms → is_settled bodies order ≡ true
  pub whole : (bodies : Bodies) → ComeFrom bodies flat.forms → AllOccur bodies order
  pub held : AllByRecursion (FormHolds (map (λ m. m.kind) flat.items)) flat.forms
  pub apart : are_distinct (body_numbers flat.forms) ≡ true

-- ---- the order of a model's items

abbrev pub number_listed : Option ℕ → List ℕ
number_listed None = []
number_listed (Some k) = k ∷ []

-- the item of a definition or an actual, where it has one: an actual that is a path has none
abbrev pub body_item : List Instance → Option BodyKey → List ℕ
body_item t None = []
body_item t (Some b) = number_listed (position (is_body_at b.0 b.1) (origins_of t))

-- the items of an order of definitions and actuals
abbrev pub item_order : List Instance → List ℕ → List ℕ
item_order t order = flat_map (λ b. body_item t (slice_get (bodies_of t) b)) order

-- an order of an accepted model's definitions and actuals is one of its flat form's items
abbrev pub FlatIsOrdered : Type 0
FlatIsOrdered = (source : PlainSource) (needed : ℕ) → IsAccepted source needed → (order : List ℕ) → IsBodyOrder (instances_of source) order
    → IsItemOrder (flat_smv source) (item_order (instances_of source) order)
