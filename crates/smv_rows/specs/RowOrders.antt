-- How rows of a flat form are filled.
use Rattle.std.specs.Prelude.{◌≡◌, ◌⊎◌, ℕ, ◌<◌, Bool, true, false, ◌||◌, nat_lt, List, [], ◌∷◌, length, Option, Some, None, slice_get}
use Rattle.std.specs.Borrow.{Bor}
use Rattle.std.specs.List.{list_all}
use Rattle.smv_items.specs.declared.items.ItemKind.{ItemKind}
use Rattle.smv_items.specs.declared.items.ItemKind.TheVariants.{State, Frozen, Input, Define, Actual}
use Rattle.smv_items.specs.declared.items.FlatItem.{FlatItem}
use Rattle.smv_flat.specs.declared.expressions.FlatExpr.{FlatExpr}
use Rattle.smv_flat.specs.FlatTree.{FlatTree}
use Rattle.smv_flat.specs.declared.forms.Role.{Role}
use Rattle.smv_flat.specs.declared.forms.Role.TheVariants.{Body}
use Rattle.smv_flat.specs.FlatForms.{Form}
use Rattle.smv_flat_laws.specs.FlatOrders.{Bodies, ComeFrom, is_variable, is_settled, AllOccur}
use Rattle.smv_rows.specs.Filling.{bodies_in}
use Rattle.smv_flat.specs.FlatParts.{parts_plain}
use Rattle.smv_rows.specs.Places.{HavePlaces}
use Rattle.smv_flat.specs.declared.parts.FlatParts.{FlatParts}
use Rattle.smv_rows.specs.declared.order.RowOrder.{RowOrder}

-- ---- bodies

abbrev pub IsRoleBody : Bodies → Role → FlatTree → Type 0
IsRoleBody bodies (Body k) e = bodies k ≡ Some e
IsRoleBody bodies r e = Unit {0}

-- each formula that is the body of an item is that item's body
abbrev pub HaveBodies : Bodies → List Form → Type 0
HaveBodies bodies [] = Unit {0}
HaveBodies bodies (f ∷ fs) = IsRoleBody bodies f.role f.body × HaveBodies bodies fs

-- no variable has a body
abbrev pub VariablesAreFree : Bodies → List FlatItem → Type 0
VariablesAreFree bodies items = (k : ℕ) (m : FlatItem) → slice_get items k ≡ Some m → is_variable m.kind ≡ true → bodies k ≡ None

-- all bodies stay
abbrev pub Extends : (old new : Bodies) → Type 0
Extends old new = (k : ℕ) (e : FlatTree) → old k ≡ Some e → new k ≡ Some e

pub record AreItemBodies (items : List FlatItem) (forms : List Form) (bodies : List (Option (Bor FlatExpr))) : Type 0 where
  pub size : length bodies ≡ length items
  pub have : HaveBodies (bodies_in bodies) forms
  pub free : VariablesAreFree (bodies_in bodies) items
  pub only : ComeFrom (bodies_in bodies) forms

-- a body can be added: there is a place for it, and none is there yet
abbrev pub CanAdd : List (Option (Bor FlatExpr)) → Role → Type 0
CanAdd bodies (Body k) = (k < length bodies) × (bodies_in bodies k ≡ None)
CanAdd bodies r = Unit {0}

-- what has a body afterwards, where one was added
pub record Added (old new : List (Option (Bor FlatExpr))) (role : Role) (e : FlatTree) : Type 0 where
  pub size : length new ≡ length old
  pub extends : Extends (bodies_in old) (bodies_in new)
  pub is : IsRoleBody (bodies_in new) role e
  pub only : (k : ℕ) (b : FlatTree) → bodies_in new k ≡ Some b → (bodies_in old k ≡ Some b) ⊎ ((role ≡ Body k) × (e ≡ b))

-- ---- the order of bodies

-- each item with a body is in it, and no body reads its own item or one that is behind it
pub record IsOrderOf (bodies : List (Option (Bor FlatExpr))) (order : List ℕ) : Type 0 where
  pub within : list_all (λ k. nat_lt k (length bodies)) order ≡ true
  pub settled : is_settled (bodies_in bodies) order ≡ true
  pub whole : AllOccur (bodies_in bodies) order

-- ---- all

abbrev pub is_input : ItemKind → Bool
is_input State = false
is_input Frozen = false
is_input Input = true
is_input Define = false
is_input Actual = false

-- one of the items is an input
abbrev pub has_inputs : List FlatItem → Bool
has_inputs [] = false
has_inputs (m ∷ ms) = is_input m.kind || has_inputs ms

-- the bodies by the numbers of their items, an order in which each is after the items that it reads, the place of each item's
-- name where values are looked up by names, and whether there are inputs
pub record IsRowOrder (flat : FlatParts) (o : RowOrder) : Type 0 where
  pub bodies : AreItemBodies flat.items.now (parts_plain flat).forms o.bodies.items
  pub order : IsOrderOf o.bodies.items o.order.now
  pub places : o.listed ≡ false → HavePlaces o.names o.places.items flat.items.now
  pub inputs : o.inputs ≡ has_inputs flat.items.now
