-- An order of an accepted model's definitions and actuals is one of its flat form's items.
use Rattle.std.proofs.Common.{◌≡◌, ℕ, suc, ◌+◌, ◌<◌, ◌≤◌, Bool, true, false, not, ◌||◌, ◌==◌, nat_lt, if◌then◌else◌, cond, List, [], ◌∷◌, ◌++◌, map, length, position, Option, Some, None, option_map, refl, sym, ap, ◌∙◌, subst, append_assoc, arith}
use mathlib.Core.Logic.{◌⊎◌, inl, inr}
use Rattle.std.proofs.Math.Logic.{∥∥₁_elim, ∥∥₁_map}
use Rattle.std.proofs.Math.Bool.{Bool-set}
use Rattle.std.specs.List.{slice_get, list_all, AllByRecursion}
use Rattle.std.proofs.lemmas.Bool.{eqb-true, eq-eqb, lt-ltb, or_cases}
use Rattle.std.proofs.lemmas.List.{length-map, length_push}
use Rattle.std.proofs.lemmas.Option.{slice_get-map, slice_get-get_or, slice_get_within}
use Rattle.digraph.specs.Graph.{is_in, are_distinct}
use Rattle.smv_text.specs.declared.tree.VarKind.TheVariants as OfVarKind
use Rattle.smv_meaning.specs.Instances.{Instance, instances_of}
use Rattle.smv_meaning.specs.Names.{Local, local}
use Rattle.smv_meaning.specs.Phases.{Body as BodyKey}
use Rattle.smv_meaning.specs.Settled.{has_body}
use Rattle.smv_meaning.specs.Bodies.{bodies_of, IsBodyOrder}
use Rattle.smv_meaning.specs.laws.Booleans.{both_true, two_true}
use Rattle.smv_laws.proofs.Cycles.{In}
use Rattle.smv_laws.proofs.Ranked.{key, keys_of, in_keys}
use Rattle.smv_laws.proofs.OrderLaws.{number, nobody, place_within, place_is, graph_length, bodies_are}
use Rattle.smv_laws.proofs.Positions.{upto, upto_positive, order_rank, order_descent}
use Rattle.smv_items.specs.declared.items.ItemKind.{ItemKind}
use Rattle.smv_items.specs.FlatItems.{Content, variable, definition, actual, Origin, is_body, origins_of, kind_of, PlainFlatItem, flat_item_of}
use Rattle.smv_items.specs.FlatOrigins.{is_body_at}
use Rattle.smv_items.specs.laws.Declarations.{DiffersInside, accepted_differ}
use Rattle.smv_flat.specs.declared.forms.Role.{Role}
use Rattle.smv_flat.specs.declared.forms.Role.TheVariants.{Body, Assign, Init, Trans, Invar, Invariant}
use Rattle.smv_flat.specs.FlatTree.{FlatTree}
use Rattle.smv_flat.specs.FlatForms.{Form, forms_of, PlainFlat, flat_of}
use Rattle.smv_flat_laws.specs.FlatOrders.{Bodies, all_read, body_reads, is_settled, holds_body, RoleHolds, FormHolds, body_numbers, IsItemOrder, number_listed, body_item, item_order, FlatIsOrdered}
use Rattle.smv_flat_laws.proofs.FlatPlaces.{position_cons, any_right}
use Rattle.smv_flat_laws.proofs.FlatNames.{IsLocal, item_local, items_differ, keys_differ, placed_at, place_once}
use Rattle.smv_flat_laws.proofs.FlatOrders.{item_rank, body_rank, IsFalling, RoleRanked, Ranked, among_ranked, all_ranked, kinds_of, bodies_apart}

-- ---- ranks that rise along a list

abbrev RanksRise : (ℕ → ℕ) → ℕ → List ℕ → Type 0
RanksRise rank low [] = Unit {0}
RanksRise rank low (k ∷ ks) = (low ≤ rank k) × RanksRise rank (suc (rank k)) ks

ranks_lower : (rank : ℕ → ℕ) (low high : ℕ) (ks : List ℕ) → low ≤ high → RanksRise rank high ks → RanksRise rank low ks
ranks_lower rank low high [] l h = tt
ranks_lower rank low high (k ∷ ks) l h = let g = h.0 in (omega (arith, l, g), h.1)

or_none : (a b : Bool) → a ≡ false → b ≡ false → (a || b) ≡ false
or_none true b p q = cc
or_none false b p q = q

-- what has a lesser rank than all is not in it
not_below : (rank : ℕ → ℕ) (low m : ℕ) (ks : List ℕ) → RanksRise rank low ks → rank m < low → is_in ks m ≡ false
not_below rank low m [] h l = refl
not_below rank low m (k ∷ ks) h l =
    let g = h.0 in or_none (k == m) (is_in ks m) (apart (k == m) refl) (not_below rank (suc (rank k)) m ks h.1 (omega (arith, g, l)))
  where
    apart : (b : Bool) → (k == m) ≡ b → b ≡ false
    apart false e = refl
    apart true e = let s = ap rank (eqb-true k m e) in let g = h.0 in absurd (omega (arith, s, g, l))

-- where bodies read items of lesser ranks, a list along which ranks rise is settled
settled_so : (bodies : Bodies) (rank : ℕ → ℕ) → ((k : ℕ) (e : FlatTree) → bodies k ≡ Some e → (test : ℕ → Bool) → ((m : ℕ) → rank m < rank k → test m ≡ true) → all_read test e ≡ true)
    → (low : ℕ) (ks : List ℕ) → RanksRise rank low ks → is_settled bodies ks ≡ true
settled_so bodies rank f low [] h = refl
settled_so bodies rank f low (k ∷ ks) h =
    two_true (body_reads (λ m. not (is_in (k ∷ ks) m)) (bodies k)) _ (reads (bodies k) refl)
    (two_true (not (is_in ks k)) (is_settled bodies ks) (ap not (not_below rank (suc (rank k)) k ks h.1 (omega arith))) (settled_so bodies rank f (suc (rank k)) ks h.1))
  where
    reads : (o : Option FlatTree) → bodies k ≡ o → body_reads (λ m. not (is_in (k ∷ ks) m)) o ≡ true
    reads None e = refl
    reads (Some b) e =
        let own : RanksRise rank (rank k) (k ∷ ks) = (omega arith, h.1) in f k b e (λ m. not (is_in (k ∷ ks) m)) (λ m l. ap not (not_below rank (rank k) m (k ∷ ks) own l))

-- ---- the place of what stands once

in_middle : (seen ks : List ℕ) (b : ℕ) → is_in (seen ++ b ∷ ks) b ≡ true
in_middle seen ks b = any_right (λ y. y == b) seen (b ∷ ks) (ap (λ t. t || is_in ks b) (eq-eqb b b refl))

upto_middle : (seen ks : List ℕ) (b : ℕ) → are_distinct (seen ++ b ∷ ks) ≡ true → upto (seen ++ b ∷ ks) b ≡ length seen + 1
upto_middle [] ks b d = ap (λ t. cond t 1 (1 + upto ks b)) (eq-eqb b b refl)
upto_middle (s ∷ seen) ks b d =
    let a = both_true (not (is_in (seen ++ b ∷ ks) s)) (are_distinct (seen ++ b ∷ ks)) d in
    ap (λ t. cond t 1 (1 + upto (seen ++ b ∷ ks) b)) (apart a.0 (s == b) refl) ∙ (let r = upto_middle seen ks b a.1 in omega (arith, r))
  where
    apart : not (is_in (seen ++ b ∷ ks) s) ≡ true → (t : Bool) → (s == b) ≡ t → t ≡ false
    apart n false e = refl
    apart n true e =
        let i : is_in (seen ++ b ∷ ks) s ≡ true = subst (λ z. is_in (seen ++ b ∷ ks) z ≡ true) (sym (eqb-true s b e)) (in_middle seen ks b) in
        let f : not true ≡ true = subst (λ t. not t ≡ true) i n in cc

-- what is at the first place
position_gives : {X : Type 0} (p : X → Bool) (xs : List X) (k : ℕ) → position p xs ≡ Some k → (x : X) × (slice_get xs k ≡ Some x) × (p x ≡ true)
position_gives p [] k h = cc
position_gives {X = X} p (x ∷ xs) k h = by (λ n s. position_gives p xs n s) (p x) refl (position p xs) refl (sym (position_cons p x xs) ∙ h)
  where
    by : ((n : ℕ) → position p xs ≡ Some n → (y : X) × (slice_get xs n ≡ Some y) × (p y ≡ true)) → (b : Bool) → p x ≡ b → (o : Option ℕ) → position p xs ≡ o → (if b then Some 0 else option_map suc o) ≡ Some k
        → (y : X) × (slice_get (x ∷ xs) k ≡ Some y) × (p y ≡ true)
    by ih true e o s g = let z : 0 ≡ k = cc in subst (λ n. (y : X) × (slice_get (x ∷ xs) n ≡ Some y) × (p y ≡ true)) z (x, refl, e)
    by ih false e None s g = cc
    by ih false e (Some n) s g = let z : suc n ≡ k = cc in subst (λ n. (y : X) × (slice_get (x ∷ xs) n ≡ Some y) × (p y ≡ true)) z (ih n s)

-- ---- the items of an order

-- the order, in a model whose declarations differ
record Ordered (t : List Instance) (order : List ℕ) : Type 0 where
  differ : AllByRecursion DiffersInside t
  found : IsBodyOrder t order

abbrev rank_in : List Instance → List ℕ → ℕ → ℕ
rank_in t order = item_rank t (order_rank t order)

-- an item has the rank of its definition's or its actual's place
item_placed : (t : List Instance) (order seen ks : List ℕ) (b : ℕ) → Ordered t order → order ≡ seen ++ b ∷ ks → (k : BodyKey) → slice_get (bodies_of t) b ≡ Some k
    → (i : ℕ) → position (is_body_at k.0 k.1) (origins_of t) ≡ Some i → rank_in t order i ≡ length seen + 1
item_placed t order seen ks b o e k there i placed =
    let m = position_gives (is_body_at k.0 k.1) (origins_of t) i placed in
    let at : slice_get (keys_of t) b ≡ Some k = ap (λ l. slice_get l b) (sym (bodies_are t)) ∙ there in
    let own : number t k ≡ b = place_once (keys_of t) (keys_differ t o.differ) b k at in
    let once : are_distinct (seen ++ b ∷ ks) ≡ true = subst (λ l. are_distinct l ≡ true) e o.found.sorted.once in
    body_rank t (order_rank t order) i k.0 k.1 m.0 m.1 m.2 ∙ ap (upto order) own ∙ ap (λ l. upto l b) e ∙ upto_middle seen ks b once

items_rise : (t : List Instance) (order : List ℕ) → Ordered t order → (seen ks : List ℕ) → order ≡ seen ++ ks → RanksRise (rank_in t order) (length seen + 1) (item_order t ks)
items_rise t order o seen [] e = tt
items_rise t order o seen (b ∷ ks) e =
    let n = length_push seen b in
    let z : length (seen ++ b ∷ []) + 1 ≡ length seen + 2 = omega (arith, n) in
    by (subst (λ l. RanksRise (rank_in t order) l (item_order t ks)) z (items_rise t order o (seen ++ b ∷ []) ks (e ∙ sym (append_assoc seen (b ∷ []) ks)))) (slice_get (bodies_of t) b) refl
  where
    by : RanksRise (rank_in t order) (length seen + 2) (item_order t ks) → (p : Option BodyKey) → slice_get (bodies_of t) b ≡ p → RanksRise (rank_in t order) (length seen + 1) (body_item t p ++ item_order t ks)
    by h None g = ranks_lower (rank_in t order) (length seen + 1) (length seen + 2) (item_order t ks) (omega arith) h
    by h (Some k) g = at h (position (is_body_at k.0 k.1) (origins_of t)) refl
      where
        at : RanksRise (rank_in t order) (length seen + 2) (item_order t ks) → (p : Option ℕ) → position (is_body_at k.0 k.1) (origins_of t) ≡ p → RanksRise (rank_in t order) (length seen + 1) (number_listed p ++ item_order t ks)
        at h None s = ranks_lower (rank_in t order) (length seen + 1) (length seen + 2) (item_order t ks) (omega arith) h
        at h (Some i) s =
            let r = item_placed t order seen ks b o e k g i s in (omega (arith, r), ranks_lower (rank_in t order) (suc (rank_in t order i)) (length seen + 2) (item_order t ks) (omega (arith, r)) h)

items_there : (t : List Instance) (ks : List ℕ) → list_all (λ k. nat_lt k (length (origins_of t))) (item_order t ks) ≡ true
items_there t [] = refl
items_there t (b ∷ ks) = by (items_there t ks) (slice_get (bodies_of t) b)
  where
    by : list_all (λ k. nat_lt k (length (origins_of t))) (item_order t ks) ≡ true → (p : Option BodyKey) → list_all (λ k. nat_lt k (length (origins_of t))) (body_item t p ++ item_order t ks) ≡ true
    by h None = h
    by h (Some k) = at h (position (is_body_at k.0 k.1) (origins_of t)) refl
      where
        at : list_all (λ k. nat_lt k (length (origins_of t))) (item_order t ks) ≡ true → (p : Option ℕ) → position (is_body_at k.0 k.1) (origins_of t) ≡ p
            → list_all (λ k. nat_lt k (length (origins_of t))) (number_listed p ++ item_order t ks) ≡ true
        at h None s = h
        at h (Some i) s =
            let m = position_gives (is_body_at k.0 k.1) (origins_of t) i s in
            two_true (nat_lt i (length (origins_of t))) _ (lt-ltb i (length (origins_of t)) (slice_get_within (origins_of t) i m.0 m.1)) h

-- the item of a definition or an actual that is in the order is in the order of items
in_items : (t : List Instance) (ks : List ℕ) (b i : ℕ) → is_in ks b ≡ true → body_item t (slice_get (bodies_of t) b) ≡ i ∷ [] → is_in (item_order t ks) i ≡ true
in_items t [] b i h e = cc
in_items t (c ∷ ks) b i h e = by (λ g. in_items t ks b i g e) (or_cases (c == b) (is_in ks b) h)
  where
    by : (is_in ks b ≡ true → is_in (item_order t ks) i ≡ true) → ((c == b) ≡ true) ⊎ (is_in ks b ≡ true) → is_in (body_item t (slice_get (bodies_of t) c) ++ item_order t ks) i ≡ true
    by ih (inl g) =
        ap (λ z. is_in (body_item t (slice_get (bodies_of t) z) ++ item_order t ks) i) (eqb-true c b g)
        ∙ ap (λ (l : List ℕ). is_in (l ++ item_order t ks) i) e ∙ ap (λ (z : Bool). z || is_in (item_order t ks) i) (eq-eqb i i refl)
    by ih (inr g) = any_right (λ y. y == i) (body_item t (slice_get (bodies_of t) c)) (item_order t ks) (ih g)

-- ---- items that have bodies

content_body : (c : Content) → holds_body (Some (kind_of c)) ≡ true → is_body c ≡ true
content_body (variable OfVarKind.State d) h = cc
content_body (variable OfVarKind.Frozen d) h = cc
content_body (variable OfVarKind.Input d) h = cc
content_body (definition j e) h = refl
content_body (actual j e) h = refl

local_body : (l : Local) (c : Content) → is_body c ≡ true → IsLocal l c → has_body l ≡ true
local_body l (variable kind d) h i = cc
local_body l (definition j e) h i = ap has_body i
local_body l (actual j e) h i = ap has_body i

kinds_at : (t : List Instance) (k : ℕ) → slice_get (kinds_of t) k ≡ option_map (λ (m : PlainFlatItem). m.kind) (option_map (flat_item_of t) (slice_get (origins_of t) k))
kinds_at t k =
    slice_get-map (λ (m : PlainFlatItem). m.kind) (flat_of t).items k ∙ ap (option_map (λ (m : PlainFlatItem). m.kind)) (slice_get-map (flat_item_of t) (origins_of t) k)

holding_origin : (t : List Instance) (k : ℕ) → holds_body (slice_get (kinds_of t) k) ≡ true → (m : Origin) × (slice_get (origins_of t) k ≡ Some m) × (is_body m.content ≡ true)
holding_origin t k h = by (slice_get (origins_of t) k) refl (sym (ap holds_body (kinds_at t k)) ∙ h)
  where
    by : (o : Option Origin) → slice_get (origins_of t) k ≡ o → holds_body (option_map (λ (m : PlainFlatItem). m.kind) (option_map (flat_item_of t) o)) ≡ true
        → (m : Origin) × (slice_get (origins_of t) k ≡ Some m) × (is_body m.content ≡ true)
    by None e g = cc
    by (Some m) e g = (m, e, content_body m.content g)

item_occurs : (t : List Instance) (order : List ℕ) → Ordered t order → (k : ℕ) → holds_body (slice_get (kinds_of t) k) ≡ true → is_in (item_order t order) k ≡ true
item_occurs t order o k h =
    let m = holding_origin t k h in
    let i = m.0.instance in
    let x = m.0.name in
    let there : In (key i x) (keys_of t) = in_keys t i x (local_body (local t i x) m.0.content m.2 (item_local t o.differ k m.0 m.1)) in
    let low = place_within (keys_of t) (key i x) there in
    let inside : is_in order (number t (key i x)) ≡ true = o.found.sorted.whole (number t (key i x)) (omega (arith, low, graph_length t)) in
    let at : slice_get (bodies_of t) (number t (key i x)) ≡ Some (key i x) =
    ap (λ l. slice_get l (number t (key i x))) (bodies_are t) ∙ slice_get-get_or (keys_of t) (number t (key i x)) nobody low ∙ ap Some (place_is (keys_of t) (key i x) there) in
    in_items t order (number t (key i x)) k inside
    (ap (body_item t) at ∙ ap number_listed (placed_at (origins_of t) (items_differ t o.differ) k m.0 m.1 m.2))

-- ---- an order that is known to be there is the order

kinds_held : (kinds : List ItemKind) (r : Role) → ∥ RoleHolds kinds r ∥₁ → RoleHolds kinds r
kinds_held kinds (Body k) h = ∥∥₁_elim h (Bool-set (holds_body (slice_get kinds k)) true) (λ e. e)
kinds_held kinds (Assign w k) h = tt
kinds_held kinds Init h = tt
kinds_held kinds Trans h = tt
kinds_held kinds Invar h = tt
kinds_held kinds Invariant h = tt

forms_held : (kinds : List ItemKind) (fs : List Form) → ∥ AllByRecursion (FormHolds kinds) fs ∥₁ → AllByRecursion (FormHolds kinds) fs
forms_held kinds [] h = tt
forms_held kinds (f ∷ fs) h = (kinds_held kinds f.role (∥∥₁_map h (λ p. p.0)), forms_held kinds fs (∥∥₁_map h (λ p. p.1)))

pub item_order_held : (flat : PlainFlat) (order : List ℕ) → ∥ IsItemOrder flat order ∥₁ → IsItemOrder flat order
item_order_held flat order h = record {
  within = ∥∥₁_elim h (Bool-set (list_all (λ k. nat_lt k (length flat.items)) order) true) (λ (o : IsItemOrder flat order). o.within);
  settled = λ bodies c. ∥∥₁_elim h (Bool-set (is_settled bodies order) true) (λ (o : IsItemOrder flat order). o.settled bodies c);
  whole = λ bodies c k e is. ∥∥₁_elim h (Bool-set (is_in order k) true) (λ (o : IsItemOrder flat order). o.whole bodies c k e is);
  held = forms_held (map (λ m. m.kind) flat.items) flat.forms (∥∥₁_map h (λ (o : IsItemOrder flat order). o.held));
  apart = ∥∥₁_elim h (Bool-set (are_distinct (body_numbers flat.forms)) true) (λ (o : IsItemOrder flat order). o.apart);
}

-- ---- the law

role_held : (t : List Instance) (rank : BodyKey → ℕ) (r : Role) (e : FlatTree) → RoleRanked t rank r e → RoleHolds (kinds_of t) r
role_held t rank (Body k) e h = h.0
role_held t rank (Assign w k) e h = tt
role_held t rank Init e h = tt
role_held t rank Trans e h = tt
role_held t rank Invar e h = tt
role_held t rank Invariant e h = tt

all_held : (t : List Instance) (rank : BodyKey → ℕ) (fs : List Form) → Ranked t rank fs → AllByRecursion (FormHolds (kinds_of t)) fs
all_held t rank [] h = tt
all_held t rank (f ∷ fs) h = (role_held t rank f.role f.body h.0, all_held t rank fs h.1)

pub flat_is_ordered_law : FlatIsOrdered
flat_is_ordered_law source needed accepted order sorted =
    let t = instances_of source in
    let rank = order_rank t order in
    let differ = accepted_differ source needed accepted in
    let o : Ordered t order = record { differ = differ; found = sorted } in
    let f : IsFalling t rank = record { differ = differ; descent = order_descent t order sorted; positive = λ b. upto_positive order (number t b) } in
    let ranked = all_ranked t rank f in
    record {
      within = subst (λ n. list_all (λ k. nat_lt k n) (item_order t order) ≡ true) (sym (length-map (origins_of t) (flat_item_of t))) (items_there t order);
      settled = λ bodies c. settled_so bodies (rank_in t order) (λ k e h. (among_ranked t rank (forms_of t) ranked k e (c k e h)).1) 1 (item_order t order) (items_rise t order o [] order refl);
      whole = λ bodies c k e h. item_occurs t order o k (among_ranked t rank (forms_of t) ranked k e (c k e h)).0;
      held = all_held t rank (forms_of t) ranked;
      apart = bodies_apart t;
    }
