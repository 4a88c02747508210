-- What a typed path becomes: an item of that type, or a symbol.
use Rattle.std.proofs.Common.{◌≡◌, ℕ, zero, suc, ◌<◌, Bool, true, false, not, ◌&&◌, if◌then◌else◌, List, [], ◌∷◌, map, length, position, Some, None, bytes_eq, refl, sym, ap, ◌∙◌, subst, arith, inl, inr}
use Rattle.std.specs.List.{slice_get}
use Rattle.std.proofs.lemmas.List.{length-map}
use Rattle.std.proofs.lemmas.List.Quantifiers.{position-Some}
use Rattle.std.proofs.lemmas.Slice.Eq.{bytes_eq-Decides}
use Rattle.smv_text.specs.declared.tree.Path.{Path}
use Rattle.smv_text.specs.declared.tree.VarKind.{VarKind}
use Rattle.smv_text.specs.Tree.{Tree, PlainDomain}
use Rattle.smv_meaning.specs.Instances.{Instance}
use Rattle.smv_meaning.specs.Names.{Found, variable_at, body_at, instance_at, symbol_of, cyclic, none, variable_of, local, found_in, dotted_at}
use Rattle.smv_meaning.specs.Meaning.{is_input}
use Rattle.smv_meaning.specs.Types.{ExprType, symbol_type}
use Rattle.smv_meaning.specs.Checks.{Named, typing, variable_type}
use Rattle.smv_meaning.specs.Naming.{in_body, named_found, typed_variable}
use Rattle.smv_meaning.specs.Settled.{Acyclic, types_in}
use Rattle.smv_laws.proofs.Cycles.{In}
use Rattle.smv_laws.proofs.Settling.{types_settle_law}
use Rattle.smv_items.specs.FlatItems.{Leaf, of_item, of_symbol, of_nothing, Content, variable, definition, actual, Origin, origins_of, symbols_of, is_variable_as, path_of, item_leaf, symbol_leaf, leaf_found, leaf_in, content_type}
use Rattle.smv_flat_laws.proofs.FlatFound.{Home, home_found, body_in, pair, body_at_item, variable_at_item, symbol_at, both}
use Rattle.name_maps.specs.Names.{place_of, are_fresh}
use Rattle.moxi_term_print.specs.Terms.{name_at}
use Rattle.moxi_term_print.specs.laws.StandingPlaces.{fresh_place}
use Rattle.smv_script_laws.proofs.Declared.{origin_at, origin_in}
use Rattle.smv_flat_laws.proofs.FlatRows.{pair_parts}

pub some_inj : {X : Type 0} (a b : X) → Some a ≡ Some b → a ≡ b
some_inj a b h = cc

-- an element is at some place
pub in_at : {X : Type 0} (x : X) (xs : List X) → In x xs → (k : ℕ) × (slice_get xs k ≡ Some x)
in_at x [] h = absurd h
in_at x (y ∷ ys) (inl e) = (0, ap Some (sym e))
in_at x (y ∷ ys) (inr h) = let r = in_at x ys h in (suc r.0, r.1)

pub there_below : {X : Type 0} (xs : List X) (k : ℕ) (x : X) → slice_get xs k ≡ Some x → k < length xs
there_below [] k x h = cc
there_below (y ∷ ys) zero x h = omega arith
there_below (y ∷ ys) (suc k) x h = let s = there_below ys k x h in omega (arith, s)

-- the names of items, by their places
name_there : (t : List Instance) (ms : List Origin) (k : ℕ) (m : Origin) → slice_get ms k ≡ Some m → name_at (map (path_of t) ms) k ≡ path_of t m
name_there t [] k m h = cc
name_there t (o ∷ ms) zero m h = let e : o ≡ m = some_inj o m h in ap (path_of t) e
name_there t (o ∷ ms) (suc k) m h = name_there t ms k m h

-- the dotted names of the items differ
abbrev pub ItemsDiffer : List Instance → Type 0
ItemsDiffer t = are_fresh [] (map (path_of t) (origins_of t)) ≡ true

-- items of one name are one
pub one_item : (t : List Instance) → ItemsDiffer t → (k l : ℕ) (m n : Origin) → slice_get (origins_of t) k ≡ Some m → slice_get (origins_of t) l ≡ Some n → path_of t m ≡ path_of t n → k ≡ l
one_item t fresh k l m n a b e =
    let long : length (map (path_of t) (origins_of t)) ≡ length (origins_of t) = length-map (origins_of t) (path_of t) in
    let p = there_below (origins_of t) k m a in
    let q = there_below (origins_of t) l n b in
    let x = fresh_place (map (path_of t) (origins_of t)) k fresh (omega (arith, long, p)) in
    let y = fresh_place (map (path_of t) (origins_of t)) l fresh (omega (arith, long, q)) in
    let same : name_at (map (path_of t) (origins_of t)) k ≡ name_at (map (path_of t) (origins_of t)) l = name_there t (origins_of t) k m a ∙ e ∙ sym (name_there t (origins_of t) l n b) in
    some_inj k l (sym x ∙ ap (place_of (map (path_of t) (origins_of t))) same ∙ y)

-- ---- leaves

-- an item whose content has the type, or a symbol
abbrev pub IsTypedLeaf : List Instance → ExprType → Leaf → Type 0
IsTypedLeaf t u (of_item k) = (m : Origin) × (slice_get (origins_of t) k ≡ Some m) × (content_type t m.content ≡ Some u)
IsTypedLeaf t u (of_symbol s) = (s < length (symbols_of t)) × (u ≡ symbol_type)
IsTypedLeaf t u of_nothing = ⊥

variable_typed : (kind : VarKind) (d : PlainDomain) → typed_variable true kind d ≡ variable_type d
variable_typed kind d = by (is_input kind)
  where
    by : (b : Bool) → (if b && not true then None else variable_type d) ≡ variable_type d
    by true = refl
    by false = refl

body_typed : (t : List Instance) (c : Content) (j : ℕ) (e : Tree) → body_in c ≡ Some (pair j e) → content_type t c ≡ (typing (types_in true t j) in_body e).type
body_typed t (variable k d) j e h = cc
body_typed t (definition i b) j e h = let p = pair_parts i j b e h in ap (λ n. (typing (types_in true t n) in_body b).type) p.0 ∙ ap (λ c. (typing (types_in true t j) in_body c).type) p.1
body_typed t (actual i b) j e h = let p = pair_parts i j b e h in ap (λ n. (typing (types_in true t n) in_body b).type) p.0 ∙ ap (λ c. (typing (types_in true t j) in_body c).type) p.1

first_below : {X : Type 0} (p : X → Bool) (xs : List X) (k : ℕ) → position p xs ≡ Some k → k < length xs
first_below p [] k h = cc
first_below p (x ∷ xs) k h = (position-Some p (x ∷ xs) k x h).0

-- a variable's item is the one that its instance declares
variable_leaf : (t : List Instance) → ItemsDiffer t → (i : ℕ) (x : List ℕ) (kind : VarKind) (d : PlainDomain) (u : ExprType) → local t i x ≡ variable_of kind d → variable_type d ≡ Some u
    → IsTypedLeaf t u (leaf_found t (variable_at (dotted_at t i x) kind d))
variable_leaf t fresh i x kind d u h e =
    let a = variable_at_item t i x kind d h in
    let b = both (is_variable_as kind a.x.content) (bytes_eq (path_of t a.x) (dotted_at t i x)) a.holds in
    let path : path_of t a.x ≡ dotted_at t i x = (bytes_eq-Decides (path_of t a.x) (dotted_at t i x)).0 b.1 in
    let own = in_at (origin_at i x kind d) (origins_of t) (origin_in t i x kind d h) in
    let k : a.k ≡ own.0 = one_item t fresh a.k own.0 a.x (origin_at i x kind d) a.there own.1 path in
    subst (λ l. IsTypedLeaf t u l) (sym (ap item_leaf a.placed)) (origin_at i x kind d, subst (λ n. slice_get (origins_of t) n ≡ Some (origin_at i x kind d)) (sym k) own.1, e)

body_leaf : (t : List Instance) (i : ℕ) (x : List ℕ) (j : ℕ) (e : Tree) (u : ExprType) → Home t (body_at i x j e) → (typing (types_in true t j) in_body e).type ≡ Some u → IsTypedLeaf t u (leaf_found t (body_at i x j e))
body_leaf t i x j e u h s =
    let a = body_at_item t i x j e h in
    subst (λ l. IsTypedLeaf t u l) (sym (ap item_leaf a.placed)) (a.x, a.there, body_typed t a.x.content j e a.gives ∙ s)

symbol_leaf_typed : (t : List Instance) (x : List ℕ) (u : ExprType) → Home t (symbol_of x) → Some symbol_type ≡ Some u → IsTypedLeaf t u (leaf_found t (symbol_of x))
symbol_leaf_typed t x u h s =
    let a = symbol_at t x h in
    subst (λ l. IsTypedLeaf t u l) (sym (ap symbol_leaf a.placed)) (first_below (bytes_eq x) (symbols_of t) a.k a.placed, sym (some_inj symbol_type u s))

found_leaf : (t : List Instance) → ItemsDiffer t → (m : Found) (u : ExprType) → Home t m → (named_found true (types_in true t) m).type ≡ Some u → IsTypedLeaf t u (leaf_found t m)
found_leaf t fresh (variable_at y kind d) u h e =
    subst (λ z. IsTypedLeaf t u (leaf_found t (variable_at z kind d))) (sym h.2) (variable_leaf t fresh h.0 h.1 kind d u h.3 (sym (variable_typed kind d) ∙ e))
found_leaf t fresh (body_at i x j b) u h e = body_leaf t i x j b u h e
found_leaf t fresh (symbol_of x) u h e = symbol_leaf_typed t x u h e
found_leaf t fresh (instance_at i) u h e = cc
found_leaf t fresh cyclic u h e = cc
found_leaf t fresh none u h e = cc

pub typed_leaf : (t : List Instance) → Acyclic t → ItemsDiffer t → (i : ℕ) (x : Path) (u : ExprType) → (types_in true t i x).type ≡ Some u → IsTypedLeaf t u (leaf_in t i x)
typed_leaf t a fresh i x u e =
    found_leaf t fresh (found_in t i x) u (home_found t i x) (sym (ap (λ (m : Named). m.type) (types_settle_law t a true i x)) ∙ e)
