-- What the values behind a heading leave of the values that were stated before.
use Rattle.std.proofs.Common.{◌≡◌, ℕ, suc, ◌+◌, Bool, true, false, cond, not, ◌&&◌, ◌||◌, Option, Some, None, is_none, List, [], ◌∷◌, ◌++◌, length, refl, sym, ap, ◌∙◌, append_assoc, append-nil, arith}
use Rattle.std.specs.Prelude.{slice_get, nat_lt}
use Rattle.std.specs.List.{filter, list_any, position_or_len}
use Rattle.std.specs.Str.{bytes_eq}
use Rattle.std.proofs.lemmas.Bool.{and_parts, lt-ltb}
use Rattle.std.proofs.lemmas.List.{length-append}
use Rattle.std.proofs.lemmas.Slice.Eq.{bytes_eq-Decides}
use Rattle.name_maps.specs.Names.{place_of, are_fresh}
use Rattle.name_maps.specs.laws.Places.{placed}
use Rattle.smv_meaning.specs.declared.value.Value.{Value}
use Rattle.smv_meaning.specs.declared.value.Given.{Given}
use Rattle.smv_items.specs.declared.items.ItemKind.{ItemKind}
use Rattle.smv_items.specs.declared.items.ItemKind.TheVariants as kind
use Rattle.smv_items.specs.FlatItems.{PlainFlatItem}
use Rattle.smv_numbered.specs.declared.heading.Heading.{Heading}
use Rattle.smv_numbered.specs.declared.heading.Heading.TheVariants.{State, Input}
use Rattle.smv_numbered.specs.Stated.{can_be_stated, names_each}
use Rattle.smv_numbered.specs.Values.{picks, given_if, values_of}
use Rattle.smv_trace.specs.Reading.{lacks}

-- ---- a name's place

fresh_front : (before front back : List (List ℕ)) (x : List ℕ) → are_fresh before (front ++ x ∷ back) ≡ true → is_none (place_of (before ++ front) x) ≡ true
fresh_front before [] back x h =
    let t = and_parts (is_none (place_of before x)) (are_fresh (before ++ x ∷ []) back) h in
    ap (λ l. is_none (place_of l x)) (append-nil before) ∙ t.0
fresh_front before (y ∷ ys) back x h =
    let t = and_parts (is_none (place_of before y)) (are_fresh (before ++ y ∷ []) (ys ++ x ∷ back)) h in
    ap (λ l. is_none (place_of l x)) (sym (append_assoc before (y ∷ []) ys)) ∙ fresh_front (before ++ y ∷ []) ys back x t.1

pub neither : (a b : Bool) → (a || b) ≡ false → (a ≡ false) × (b ≡ false)
neither true b h = absurd (let e : true ≡ false = h in cc)
neither false b h = (refl, h)

first_at : (front back : List (List ℕ)) (x : List ℕ) → list_any (bytes_eq x) front ≡ false → position_or_len (bytes_eq x) (front ++ x ∷ back) ≡ length front
first_at [] back x h = ap (λ b. cond (not b) (1 + position_or_len (bytes_eq x) back) 0) ((bytes_eq-Decides x x).1 refl)
first_at (y ∷ ys) back x h =
    let t = neither (bytes_eq x y) (list_any (bytes_eq x) ys) h in
    ap (λ b. cond (not b) (1 + position_or_len (bytes_eq x) (ys ++ x ∷ back)) 0) t.0 ∙ (let e = first_at ys back x t.1 in omega (arith, e))

not_placed : (o : Option ℕ) (b : Bool) → is_none o ≡ not b → is_none o ≡ true → b ≡ false
not_placed o true e h = absurd (let f : true ≡ false = sym h ∙ e in cc)
not_placed o false e h = refl

pub placed_at : (front back : List (List ℕ)) (x : List ℕ) → are_fresh [] (front ++ x ∷ back) ≡ true → place_of (front ++ x ∷ back) x ≡ Some (length front)
placed_at front back x h =
    let lacking = not_placed (place_of front x) (list_any (bytes_eq x) front) (placed front x) (fresh_front [] front back x h) in
    let at = first_at front back x lacking in
    let long = length-append front (x ∷ back) in
    ap (λ n. cond (nat_lt n (length (front ++ x ∷ back))) (Some n) None) at
    ∙ ap (λ b. cond b (Some (length front)) None) (lt-ltb (length front) (length (front ++ x ∷ back)) (omega (arith, long)))

pub item_at : (front back : List PlainFlatItem) (m : PlainFlatItem) → slice_get (front ++ m ∷ back) (length front) ≡ Some m
item_at [] back m = refl
item_at (x ∷ front) back m = item_at front back m

-- ---- values that are stated anew

abbrev pub replaced : Bool → Option Value → List Given → Option Value
replaced true v (g ∷ gs) = Some g.value
replaced true v [] = v
replaced false v gs = v

abbrev pub remaining : Bool → List Given → List Given
remaining true (g ∷ gs) = gs
remaining true [] = []
remaining false gs = gs

-- the last value of each item, where these values are behind the heading
abbrev pub restated : Heading → List PlainFlatItem → List (Option Value) → List Given → List (Option Value)
restated h [] vs gs = vs
restated h (m ∷ ms) [] gs = []
restated h (m ∷ ms) (v ∷ vs) gs = replaced (picks h m.kind) v gs ∷ restated h ms vs (remaining (picks h m.kind) gs)

pub restated_long : (h : Heading) (ms : List PlainFlatItem) (vs : List (Option Value)) (gs : List Given) → length (restated h ms vs gs) ≡ length vs
restated_long h [] vs gs = refl
restated_long h (m ∷ ms) [] gs = refl
restated_long h (m ∷ ms) (v ∷ vs) gs = ap suc (restated_long h ms vs (remaining (picks h m.kind) gs))

abbrev pub picked : Heading → List PlainFlatItem → List PlainFlatItem
picked h ms = filter (λ m. picks h m.kind) ms

abbrev pub AreOf : List (List ℕ) → Heading → List PlainFlatItem → List Given → Type 0
AreOf symbols h ms gs = names_each symbols (picked h ms) gs ≡ true

-- what is known of the first
pub record Named (symbols : List (List ℕ)) (m : PlainFlatItem) (g : Given) : Type 0 where
  pub name : m.name ≡ g.name
  pub fits : can_be_stated symbols m.type g.value ≡ true

pub first_named : (symbols : List (List ℕ)) (m : PlainFlatItem) (ms : List PlainFlatItem) (g : Given) (gs : List Given) → names_each symbols (m ∷ ms) (g ∷ gs) ≡ true → Named symbols m g × (names_each symbols ms gs ≡ true)
first_named symbols m ms g gs h =
    let t = and_parts (bytes_eq m.name g.name && can_be_stated symbols m.type g.value) (names_each symbols ms gs) h in
    let u = and_parts (bytes_eq m.name g.name) (can_be_stated symbols m.type g.value) t.0 in
    (record { name = (bytes_eq-Decides m.name g.name).0 u.0; fits = u.1 }, t.1)

given_same : (m : PlainFlatItem) (g : Given) → m.name ≡ g.name → given_if true m.name (Some g.value) ≡ g ∷ []
given_same m g e = ap (λ (x : List ℕ). given_if true x (Some g.value)) e

abbrev Kept : List (List ℕ) → Heading → List PlainFlatItem → List (Option Value) → List Given → Type 0
Kept symbols h ms vs gs = (values_of h ms (restated h ms vs gs) ≡ gs) × (lacks h ms (restated h ms vs gs) ≡ false)

-- the values of the heading are these
pub restated_values : (symbols : List (List ℕ)) (h : Heading) (ms : List PlainFlatItem) (vs : List (Option Value)) (gs : List Given) → length vs ≡ length ms → AreOf symbols h ms gs
    → (values_of h ms (restated h ms vs gs) ≡ gs) × (lacks h ms (restated h ms vs gs) ≡ false)
restated_values symbols h [] vs [] e are = (refl, refl)
restated_values symbols h [] vs (g ∷ gs) e are = absurd (let f : false ≡ true = are in cc)
restated_values symbols h (m ∷ ms) [] gs e are = absurd (omega (arith, e))
restated_values symbols h (m ∷ ms) (v ∷ vs) gs e are = go (picks h m.kind) gs are (λ gs are. restated_values symbols h ms vs gs (omega (arith, e)) are)
  where
    go : (b : Bool) (gs : List Given) → names_each symbols (cond b (m ∷ picked h ms) (picked h ms)) gs ≡ true → ((gs : List Given) → AreOf symbols h ms gs → Kept symbols h ms vs gs)
        → (given_if b m.name (replaced b v gs) ++ values_of h ms (restated h ms vs (remaining b gs)) ≡ gs)
        × (((b && is_none (replaced b v gs)) || lacks h ms (restated h ms vs (remaining b gs))) ≡ false)
    go true [] are ih = absurd (let f : false ≡ true = are in cc)
    go true (g ∷ gs) are ih =
        let t = first_named symbols m (picked h ms) g gs are in
        let k = ih gs t.1 in
        (ap (λ l. l ++ values_of h ms (restated h ms vs gs)) (given_same m g t.0.name) ∙ ap (λ l. g ∷ l) k.0, k.1)
    go false gs are ih = ih gs are

-- those of another heading stay
pub others_kept : (h other : Heading) → ((k : ItemKind) → picks h k ≡ true → picks other k ≡ false) → (ms : List PlainFlatItem) (vs : List (Option Value)) (gs : List Given)
    → (values_of other ms (restated h ms vs gs) ≡ values_of other ms vs) × (lacks other ms (restated h ms vs gs) ≡ lacks other ms vs)
others_kept h other apart [] vs gs = (refl, refl)
others_kept h other apart (m ∷ ms) [] gs = (refl, refl)
others_kept h other apart (m ∷ ms) (v ∷ vs) gs = go (picks h m.kind) (picks other m.kind) (apart m.kind) gs (others_kept h other apart ms vs)
  where
    go : (b c : Bool) → (b ≡ true → c ≡ false) → (gs : List Given)
        → ((gs : List Given) → (values_of other ms (restated h ms vs gs) ≡ values_of other ms vs) × (lacks other ms (restated h ms vs gs) ≡ lacks other ms vs))
        → (given_if c m.name (replaced b v gs) ++ values_of other ms (restated h ms vs (remaining b gs)) ≡ given_if c m.name v ++ values_of other ms vs)
        × (((c && is_none (replaced b v gs)) || lacks other ms (restated h ms vs (remaining b gs))) ≡ ((c && is_none v) || lacks other ms vs))
    go false c a gs ih = let k = ih gs in (ap (λ l. given_if c m.name v ++ l) k.0, ap (λ l. (c && is_none v) || l) k.1)
    go true true a gs ih = absurd (let f : true ≡ false = a refl in cc)
    go true false a [] ih = ih []
    go true false a (g ∷ gs) ih = ih gs

pub state_apart : (k : ItemKind) → picks State k ≡ true → picks Input k ≡ false
state_apart kind.State h = refl
state_apart kind.Frozen h = refl
state_apart kind.Input h = absurd (let e : false ≡ true = h in cc)
state_apart kind.Define h = refl
state_apart kind.Actual h = refl
