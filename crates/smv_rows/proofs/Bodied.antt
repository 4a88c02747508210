-- Bodies that are added one after another.
use Rattle.std.proofs.Common.{◌≡◌, ℕ, ◌<◌, ◌⊎◌, inl, inr, Bool, true, false, not, ◌||◌, ◌==◌, nat_lt, List, [], ◌∷◌, ◌++◌, map, length, Option, Some, None, option_map, refl, sym, ap, ◌∙◌, subst}
use Rattle.std.specs.Borrow.{Bor}
use Rattle.std.specs.List.{slice_get, list_all, AllByRecursion}
use Rattle.std.proofs.lemmas.List.{length-map}
use Rattle.std.proofs.lemmas.Option.{slice_get-map, slice_get_within}
use Rattle.digraph.specs.Graph.{is_in, are_distinct}
use Rattle.smv_meaning.specs.laws.Booleans.{both_true}
use Rattle.smv_items.specs.declared.items.ItemKind.{ItemKind}
use Rattle.smv_items.specs.declared.items.FlatItem.{FlatItem}
use Rattle.smv_items.specs.FlatItems.{PlainFlatItem}
use Rattle.smv_items.specs.FlatItemView.{item_plain}
use Rattle.smv_flat.specs.declared.expressions.FlatExpr.{FlatExpr}
use Rattle.smv_flat.specs.FlatTree.{FlatTree}
use Rattle.smv_flat.specs.FlatForms.{Form, PlainFlat}
use Rattle.smv_flat.specs.declared.forms.Role.{Role}
use Rattle.smv_flat.specs.declared.forms.Role.TheVariants.{Body, Assign, Init, Trans, Invar, Invariant}
use Rattle.smv_flat_laws.specs.FlatOrders.{Bodies, IsAmong, ComeFrom, holds_body, RoleHolds, FormHolds, role_number, body_numbers, IsItemOrder}
use Rattle.smv_rows.specs.Filling.{bodies_in}
use Rattle.smv_rows.specs.RowOrders.{IsRoleBody, HaveBodies, Extends, CanAdd, Added, VariablesAreFree, AreItemBodies, IsOrderOf}
use Rattle.smv_rows.proofs.Sets.{own}
use Rattle.text_core.proofs.Truths.{not_true}

pub role_on : (old new : Bodies) → Extends old new → (r : Role) (e : FlatTree) → IsRoleBody old r e → IsRoleBody new r e
role_on old new h (Body k) e b = h k e b
role_on old new h (Assign w k) e b = tt
role_on old new h Init e b = tt
role_on old new h Trans e b = tt
role_on old new h Invar e b = tt
role_on old new h Invariant e b = tt

-- the formulas up to here and one more
pub have_on : (old new : List (Option (Bor FlatExpr))) (f : Form) (fs all : List Form) → Added old new f.role f.body
    → ((later : List (Option (Bor FlatExpr))) → Extends (bodies_in old) (bodies_in later) → HaveBodies (bodies_in later) (f ∷ fs) → HaveBodies (bodies_in later) all)
    → (later : List (Option (Bor FlatExpr))) → Extends (bodies_in new) (bodies_in later) → HaveBodies (bodies_in later) fs → HaveBodies (bodies_in later) all
have_on old new f fs all a h later ext have =
    h later (λ k e g. ext k e (a.extends k e g)) (role_on (bodies_in new) (bodies_in later) ext f.role f.body a.is, have)

-- what is among the rest is among all
abbrev pub AmongAll : List Form → List Form → Type 0
AmongAll rest all = (k : ℕ) (e : FlatTree) → IsAmong k e rest → IsAmong k e all

pub come_on : (old new : List (Option (Bor FlatExpr))) (f : Form) (fs all : List Form) → Added old new f.role f.body → ComeFrom (bodies_in old) all → AmongAll (f ∷ fs) all → ComeFrom (bodies_in new) all
come_on old new f fs all a h among k e g = by (a.only k e g)
  where
    by : (bodies_in old k ≡ Some e) ⊎ ((f.role ≡ Body k) × (f.body ≡ e)) → IsAmong k e all
    by (inl s) = h k e s
    by (inr s) = among k e (inl s)

-- the items of the rest have no body yet
abbrev pub RestIsFree : List (Option (Bor FlatExpr)) → List Form → Type 0
RestIsFree bodies rest = (k : ℕ) → is_in (body_numbers rest) k ≡ true → bodies_in bodies k ≡ None

or_behind : (a b : Bool) → b ≡ true → (a || b) ≡ true
or_behind true b h = refl
or_behind false b h = h

or_front : (a b : Bool) → a ≡ true → (a || b) ≡ true
or_front true b h = refl
or_front false b h = cc

behind_role : (r : Role) (ks : List ℕ) (k : ℕ) → is_in ks k ≡ true → is_in (role_number r ++ ks) k ≡ true
behind_role (Body j) ks k h = or_behind (j == k) (is_in ks k) h
behind_role (Assign w j) ks k h = h
behind_role Init ks k h = h
behind_role Trans ks k h = h
behind_role Invar ks k h = h
behind_role Invariant ks k h = h

distinct_behind : (r : Role) (ks : List ℕ) → are_distinct (role_number r ++ ks) ≡ true → are_distinct ks ≡ true
distinct_behind (Body j) ks h = (both_true (not (is_in ks j)) (are_distinct ks) h).1
distinct_behind (Assign w j) ks h = h
distinct_behind Init ks h = h
distinct_behind Trans ks h = h
distinct_behind Invar ks h = h
distinct_behind Invariant ks h = h

role_out : (r : Role) (ks : List ℕ) (k : ℕ) → are_distinct (role_number r ++ ks) ≡ true → r ≡ Body k → is_in ks k ≡ false
role_out r ks k h e =
    let d : are_distinct (k ∷ ks) ≡ true = subst (λ x. are_distinct (role_number x ++ ks) ≡ true) e h in not_true (is_in ks k) (both_true (not (is_in ks k)) (are_distinct ks) d).0

pub distinct_on : (f : Form) (fs : List Form) → are_distinct (body_numbers (f ∷ fs)) ≡ true → are_distinct (body_numbers fs) ≡ true
distinct_on f fs h = distinct_behind f.role (body_numbers fs) h

pub free_on : (old new : List (Option (Bor FlatExpr))) (f : Form) (fs : List Form) → Added old new f.role f.body → are_distinct (body_numbers (f ∷ fs)) ≡ true → RestIsFree old (f ∷ fs) → RestIsFree new fs
free_on old new f fs a d h k i = by (bodies_in new k) refl
  where
    by : (o : Option FlatTree) → bodies_in new k ≡ o → bodies_in new k ≡ None
    by None e = e
    by (Some b) e = at (a.only k b e)
      where
        at : (bodies_in old k ≡ Some b) ⊎ ((f.role ≡ Body k) × (f.body ≡ b)) → bodies_in new k ≡ None
        at (inl s) = let n = h k (behind_role f.role (body_numbers fs) k i) in cc
        at (inr s) = let n = role_out f.role (body_numbers fs) k d s.0 in cc

holds_within : (kinds : List ItemKind) (k : ℕ) → holds_body (slice_get kinds k) ≡ true → k < length kinds
holds_within kinds k h = by (slice_get kinds k) refl h
  where
    by : (o : Option ItemKind) → slice_get kinds k ≡ o → holds_body o ≡ true → k < length kinds
    by None e g = cc
    by (Some kind) e g = slice_get_within kinds k kind e

pub can_add : (items : List FlatItem) (bodies : List (Option (Bor FlatExpr))) (r : Role) (ks : List ℕ) → length bodies ≡ length items
    → RoleHolds (map (λ m. m.kind) items) r → ((k : ℕ) → is_in (role_number r ++ ks) k ≡ true → bodies_in bodies k ≡ None) → CanAdd bodies r
can_add items bodies (Body k) ks size held free =
    let low = holds_within (map (λ m. m.kind) items) k held in
    (subst (λ n. k < n) (length-map items (λ m. m.kind) ∙ sym size) low, free k (or_front (k == k) (is_in ks k) (own k)))
can_add items bodies (Assign w k) ks size held free = tt
can_add items bodies Init ks size held free = tt
can_add items bodies Trans ks size held free = tt
can_add items bodies Invar ks size held free = tt
can_add items bodies Invariant ks size held free = tt

-- ---- what was added

among_held : (kinds : List ItemKind) (fs : List Form) → AllByRecursion (FormHolds kinds) fs → (k : ℕ) (e : FlatTree) → IsAmong k e fs → holds_body (slice_get kinds k) ≡ true
among_held kinds [] r k e i = absurd i
among_held kinds (f ∷ fs) r k e (inl s) = subst (λ x. RoleHolds kinds x) s.0 r.0
among_held kinds (f ∷ fs) r k e (inr s) = among_held kinds fs r.1 k e s

pub variables_free : (items : List FlatItem) (fs : List Form) (bodies : Bodies) → AllByRecursion (FormHolds (map (λ m. m.kind) items)) fs → ComeFrom bodies fs → VariablesAreFree bodies items
variables_free items fs bodies r c k m there v = by (bodies k) refl
  where
    by : (o : Option FlatTree) → bodies k ≡ o → bodies k ≡ None
    by None e = e
    by (Some b) e =
        let h = among_held (map (λ m. m.kind) items) fs r k b (c k b e) in
        let at : slice_get (map (λ m. m.kind) items) k ≡ Some m.kind = slice_get-map (λ m. m.kind) items k ∙ ap (option_map (λ m. m.kind)) there in
        let g : holds_body (Some m.kind) ≡ true = subst (λ o. holds_body o ≡ true) at h in
        let n : not true ≡ true = subst (λ b. not b ≡ true) v g in cc

-- ---- the flat form's kinds, from the code's items

kinds_same : (items : List FlatItem) → map {A = PlainFlatItem} (λ m. m.kind) (map item_plain items) ≡ map {A = FlatItem} (λ m. m.kind) items
kinds_same [] = refl
kinds_same (m ∷ ms) = ap (λ ks. m.kind ∷ ks) (kinds_same ms)

pub forms_held : (items : List FlatItem) (fs : List Form) → AllByRecursion (FormHolds (map {A = PlainFlatItem} (λ m. m.kind) (map item_plain items))) fs
    → AllByRecursion (FormHolds (map {A = FlatItem} (λ m. m.kind) items)) fs
forms_held items fs h = subst (λ ks. AllByRecursion (FormHolds ks) fs) (kinds_same items) h

-- an order of the flat form's items is one of the bodies
pub order_is : (flat : PlainFlat) (items : List FlatItem) (bodies : List (Option (Bor FlatExpr))) (order : List ℕ) → flat.items ≡ map item_plain items → AreItemBodies items flat.forms bodies → IsItemOrder flat order → IsOrderOf bodies order
order_is flat items bodies order same a o = record {
  within = subst (λ n. list_all (λ k. nat_lt k n) order ≡ true) (ap length same ∙ length-map items item_plain ∙ sym a.size) o.within;
  settled = o.settled (bodies_in bodies) a.only;
  whole = o.whole (bodies_in bodies) a.only;
}
