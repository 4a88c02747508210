-- Items that stand one after another, and the bodies that are kept of them.
use Rattle.std.proofs.Common.{◌≡◌, ℕ, zero, suc, ◌+◌, ◌<◌, ◌^◌, ◌==◌, Bool, true, false, ◌&&◌, if◌then◌else◌, List, [], ◌∷◌, ◌++◌, length, map, position, Option, None, Some, option_map, Ok, bytes_eq, refl, sym, ap, ◌∙◌, subst, arith}
use Rattle.std.specs.Prelude.{slice_index_or, Result, Err, IfOk, OnOk}
use Rattle.std.specs.List.{slice_get, AllByRecursion}
use Rattle.std.proofs.lemmas.Bool.{eqb-true}
use Rattle.std.proofs.lemmas.Slice.Eq.{bytes_eq-Decides}
use Rattle.smv_text.specs.Tree.{Tree}
use Rattle.smv_meaning.specs.Instances.{Instance}
use Rattle.smv_meaning.specs.Names.{Local, body_of, nothing, local, body_at}
use Rattle.smv_meaning.specs.Types.{ExprType}
use Rattle.smv_meaning.specs.Checks.{Named, typing, first_failing}
use Rattle.smv_meaning.specs.Naming.{in_body, named_found}
use Rattle.smv_meaning.specs.Settled.{types_in}
use Rattle.smv_items.specs.FlatItems.{Content, variable, definition, actual, Origin, leaf_in, origins_of, is_body}
use Rattle.smv_items.specs.FlatOrigins.{is_body_at}
use Rattle.smv_items.specs.laws.Declarations.{DiffersInside}
use Rattle.smv_intervals.specs.View.{seen}
use Rattle.smv_types.specs.laws.Composing.{ok_parts}
use Rattle.smv_flat.specs.declared.nodes.Typed.{Typed}
use Rattle.smv_flat.specs.FlatView.{EndsTyped}
use Rattle.smv_flat.specs.laws.Reaching.{reaches_by_path}
use Rattle.smv_flat_laws.proofs.FlatPlaces.{position_cons}
use Rattle.smv_flat_laws.proofs.FlatNames.{IsLocal, item_local}
use Rattle.smv_model_types.specs.Entries.{Entries, entries_names}
use Rattle.smv_model_types.specs.Kept.{body_in, body_or_none, content_at, IsBodyAt, Stand, IsTypedIn, AreKept, IsTried, HasReferred, IsBodyOf}
use Rattle.smv_model_types.proofs.Filling.{both_true}
use Rattle.smv_model_types.proofs.FlatSame.{ends_same}

pub ok_map : {X Y E : Type 0} (r : Result (Unit {0}) E) → (X → Y) → OnOk r X → OnOk r Y
ok_map (Ok u) f x = f x
ok_map (Err e) f x = tt

pub if_map : {X E : Type 0} {P Q : X → Type 0} (r : Result X E) → ((x : X) → P x → Q x) → IfOk r P → IfOk r Q
if_map (Ok x) f p = f x p
if_map (Err e) f p = tt

-- ---- items that stand in the list

pub stand_front : (all : List Origin) (k : ℕ) (ms ns : List Origin) → Stand all k (ms ++ ns) → Stand all k ms
stand_front all k [] ns h = tt
stand_front all k (m ∷ ms) ns h = (h.0, stand_front all (k + 1) ms ns h.1)

pub stand_back : (all : List Origin) (k : ℕ) (ms ns : List Origin) → Stand all k (ms ++ ns) → Stand all (k + length ms) ns
stand_back all k [] ns h = let e : k ≡ k + 0 = omega arith in subst (λ n. Stand all n ns) e h
stand_back all k (m ∷ ms) ns h = let e : (k + 1) + length ms ≡ k + suc (length ms) = omega arith in subst (λ n. Stand all n ns) e (stand_back all (k + 1) ms ns h.1)

-- a list stands in itself
stand_from : (all : List Origin) (k : ℕ) (ms : List Origin) → ((a : ℕ) → slice_get all (k + a) ≡ slice_get ms a) → Stand all k ms
stand_from all k [] h = tt
stand_from all k (m ∷ ms) h =
    let z : k + 0 ≡ k = omega arith in
    (ap (option_map (λ (o : Origin). o.content)) (ap (slice_get all) (sym z) ∙ h 0), stand_from all (k + 1) ms (λ a. let s : (k + 1) + a ≡ k + suc a = omega arith in ap (slice_get all) s ∙ h (suc a)))

pub stand_whole : (all : List Origin) → Stand all 0 all
stand_whole all = stand_from all 0 all (λ a. let z : 0 + a ≡ a = omega arith in ap (slice_get all) z)

-- contents alone count
pub stand_mapped : (f : Origin → Origin) → ((m : Origin) → (f m).content ≡ m.content) → (all : List Origin) (k : ℕ) (ms : List Origin) → Stand all k ms → Stand all k (map f ms)
stand_mapped f same all k [] h = tt
stand_mapped f same all k (m ∷ ms) h = (h.0 ∙ ap Some (sym (same m)), stand_mapped f same all (k + 1) ms h.1)

-- a number under which there is an item is low
some_low : (all : List Origin) (k : ℕ) (b : ℕ × Tree) → body_or_none (content_at all k) ≡ Some b → k < length all
some_low [] k b h = cc
some_low (m ∷ all) zero b h = omega arith
some_low (m ∷ all) (suc k) b h = let l : k < length all = some_low all k b h in omega (arith, l)

pub body_low : (t : List Instance) (k j : ℕ) (e : Tree) → length (origins_of t) < 2 ^ 32 → IsBodyAt t k j e → k < 2 ^ 32
body_low t k j e few h = let l : k < length (origins_of t) = some_low (origins_of t) k (j, e) h in omega (arith, few, l)

-- ---- bodies in the order of references

pub tried_is : (t : List Instance) (entries : Entries) (i : ℕ) (x : List ℕ) (j : ℕ) (e : Tree) (o : Option Typed) → local t i x ≡ body_of j e → HasReferred t entries (i, x)
    → IsTried (entries_names t entries j) (leaf_in t j) e o → IsBodyOf t i x o
tried_is t entries i x j e o l r h y is k b other =
    let same : body_of k b ≡ body_of j e = sym other ∙ l in
    let js : k ≡ j = cc in
    let es : b ≡ e = cc in
    let tried = subst (IsTried (entries_names t entries j) (leaf_in t j) e) is h in
    let done : IsTypedIn t j e y = ends_same (entries_names t entries j) (types_in true t j) (leaf_in t j) in_body false e y (r j e l) tried in
    subst (λ n. IsTypedIn t n b y) (sym js) (subst (λ c. IsTypedIn t j c y) (sym es) done)

abbrev named_as : Option ExprType → Bool → Named
named_as o b = record { type = o; is_instance = false; reaches_input = b }

-- a body that is typed has its type, and reaches an input where one of its paths does
pub typed_named : (t : List Instance) (entries : Entries) (j : ℕ) (e : Tree) (x : Typed) → EndsTyped (entries_names t entries j) (leaf_in t j) in_body false e (Ok x)
    → named_as (option_map seen x.ty) x.reaches_input ≡ named_found true (entries_names t entries) (body_at 0 [] j e)
typed_named t entries j e x h =
    let names = entries_names t entries j in
    let a = typing names in_body e in
    ap (λ o. named_as o x.reaches_input) (sym (ok_parts (first_failing a.checks) a.type (option_map seen x.ty) h.0).1) ∙ ap (named_as a.type) (h.3 ∙ reaches_by_path names e)

-- ---- what is kept

pub none_kept : (t : List Instance) (kept : List (Option Typed)) → kept ≡ [] → AreKept t kept
none_kept t kept e k x h j b is = absurd_none (sym (ap (λ (xs : List (Option Typed)). slice_index_or xs k None) e) ∙ h)
  where
    absurd_none : None ≡ Some x → IsTypedIn t j b x
    absurd_none s = cc

pub fewer_kept : (t : List Instance) (old new : List (Option Typed)) → ((n : ℕ) (x : Typed) → slice_index_or new n None ≡ Some x → slice_index_or old n None ≡ Some x) → AreKept t old → AreKept t new
fewer_kept t old new less h k x e = h k x (less k x e)

-- the first that passes a test stands at its position
pub at_position : (f : Origin → Bool) (ms : List Origin) (k : ℕ) → position f ms ≡ Some k → (m : Origin) → slice_get ms k ≡ Some m → f m ≡ true
at_position f [] k h m g = cc
at_position f (o ∷ ms) k h m g = by (λ n. at_position f ms n) (f o) refl (position f ms) refl k (sym (position_cons f o ms) ∙ h) g
  where
    by : ((n : ℕ) → position f ms ≡ Some n → (m : Origin) → slice_get ms n ≡ Some m → f m ≡ true) → (b : Bool) → f o ≡ b → (p : Option ℕ) → position f ms ≡ p → (k : ℕ) → (if b then Some 0 else option_map suc p) ≡ Some k
        → slice_get (o ∷ ms) k ≡ Some m → f m ≡ true
    by ih true s p q zero e g = let same : m ≡ o = cc in ap f same ∙ s
    by ih true s p q (suc k) e g = cc
    by ih false s None q k e g = cc
    by ih false s (Some n) q zero e g = cc
    by ih false s (Some n) q (suc k) e g = let r : n ≡ k = cc in ih n q m (subst (λ a. slice_get ms a ≡ Some m) (sym r) g)

abbrev as_local : Option (ℕ × Tree) → Local
as_local None = nothing
as_local (Some b) = body_of b.0 b.1

-- an item that is a body is that of its instance and its name
body_named : (t : List Instance) → AllByRecursion DiffersInside t → (k : ℕ) (i : ℕ) (x : List ℕ) → position (is_body_at i x) (origins_of t) ≡ Some k → (j : ℕ) (e : Tree) → IsBodyAt t k j e → local t i x ≡ body_of j e
body_named t d k i x p j e h = by (slice_get (origins_of t) k) refl h
  where
    content : (l : Local) (c : Content) → IsLocal l c → body_in c ≡ Some (j, e) → l ≡ body_of j e
    content l (variable kind q) s g = cc
    content l (definition n b) s g = s ∙ ap as_local g
    content l (actual n b) s g = s ∙ ap as_local g

    by : (o : Option Origin) → slice_get (origins_of t) k ≡ o → body_or_none (option_map (λ (m : Origin). m.content) o) ≡ Some (j, e) → local t i x ≡ body_of j e
    by None s g = cc
    by (Some m) s g =
        let own = content (local t m.instance m.name) m.content (item_local t d k m s) g in
        let found = both_true (is_body m.content) ((m.instance == i) && bytes_eq m.name x) (at_position (is_body_at i x) (origins_of t) k p m s) in
        let parts = both_true (m.instance == i) (bytes_eq m.name x) found.1 in
        let is : m.instance ≡ i = eqb-true m.instance i parts.0 in
        let xs : m.name ≡ x = (bytes_eq-Decides m.name x).0 parts.1 in
        sym (ap (λ n. local t n m.name) is ∙ ap (local t i) xs) ∙ own

pub more_kept : (t : List Instance) → AllByRecursion DiffersInside t → (i : ℕ) (x : List ℕ) (k : ℕ) (o : Option Typed) (old new : List (Option Typed)) → position (is_body_at i x) (origins_of t) ≡ Some k → IsBodyOf t i x o
    → ((n : ℕ) → slice_index_or new n None ≡ (if n == k then o else slice_index_or old n None)) → AreKept t old → AreKept t new
more_kept t d i x k o old new p found put h n y e j b is = by (n == k) refl (sym (put n) ∙ e)
  where
    by : (c : Bool) → (n == k) ≡ c → (if c then o else slice_index_or old n None) ≡ Some y → IsTypedIn t j b y
    by true s g =
        let same : n ≡ k = eqb-true n k s in
        found y g j b (body_named t d k i x p j b (subst (λ z. IsBodyAt t z j b) same is))
    by false s g = h n y g j b is
