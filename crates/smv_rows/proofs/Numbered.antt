-- Values by the numbers of items are those that names give, where no two items have one name.
use Rattle.std.proofs.Common.{◌≡◌, ℕ, zero, suc, Bool, true, false, if◌then◌else◌, List, [], ◌∷◌, ◌++◌, map, length, set, Option, Some, None, bytes_eq, refl, sym, ap, ◌∙◌, subst}
use Rattle.std.specs.List.{slice_get}
use Rattle.std.proofs.lemmas.List.{length-map, map-set}
use Rattle.std.proofs.lemmas.Option.{slice_get-map}
use Rattle.std.proofs.lemmas.Slice.Eq.{bytes_eq-Decides}
use Rattle.name_maps.specs.Tables.{AreDistinct}
use Rattle.smv_meaning.specs.declared.value.Value.{Value}
use Rattle.smv_meaning.specs.declared.value.Given.{Given}
use Rattle.smv_meaning.specs.Values.{Valuation, no_value, given}
use Rattle.smv_meaning.specs.laws.Booleans.{absurd_bool}
use Rattle.smv_items.specs.declared.items.ItemKind.{ItemKind}
use Rattle.smv_items.specs.declared.items.ItemKind.TheVariants.{State, Frozen, Input, Define, Actual}
use Rattle.smv_items.specs.declared.items.FlatItem.{FlatItem}
use Rattle.smv_items.specs.FlatItems.{PlainFlatItem}
use Rattle.smv_items.specs.FlatItemView.{item_plain}
use Rattle.smv_operators.specs.declared.seen.Seen.{Seen}
use Rattle.smv_operators.specs.View.{seen_value}
use Rattle.smv_flat.specs.FlatTruth.{GivesKind, GivesItem}
use Rattle.smv_flat_evaluation.specs.RowValues.{row_values}
use Rattle.smv_numbered.specs.declared.heading.Heading.{Heading}
use Rattle.smv_numbered.specs.declared.heading.Heading.TheVariants as heading
use Rattle.smv_numbered.specs.declared.run.Change.{Change}
use Rattle.smv_numbered.specs.Values.{picks, given_if, values_of, stated_by}
use Rattle.smv_rows.specs.Numbered.{value_or_none, values_or_none, set_by, CarriesValues}
use Rattle.smv_rows.specs.Places.{IsGiven}
use Rattle.smv_flat.specs.declared.parts.FlatParts.{FlatParts}
use Rattle.smv_flat.specs.FlatParts.{parts_plain}
use Rattle.smv_rows.proofs.InOrder.{rest_distinct, apart_from, value_is}

-- ---- names

other_way : (x y : List ℕ) → bytes_eq x y ≡ false → bytes_eq y x ≡ false
other_way x y h = by (bytes_eq y x) refl
  where
    by : (b : Bool) → bytes_eq y x ≡ b → bytes_eq y x ≡ false
    by false e = e
    by true e = absurd_bool (sym h ∙ (bytes_eq-Decides x y).1 (sym ((bytes_eq-Decides y x).0 e)))

-- a value of another name is passed over
skip : (b : Bool) (y : List ℕ) (v : Option Value) (gs : List Given) (x : List ℕ) → bytes_eq y x ≡ false → given (given_if b y v ++ gs) x ≡ given gs x
skip true y (Some w) gs x e = ap (λ b. if b then w else given gs x) e
skip true y None gs x e = refl
skip false y v gs x e = refl

absent : (h : Heading) (ms : List PlainFlatItem) (vs : List (Option Value)) (x : List ℕ) → ((k : ℕ) (m : PlainFlatItem) → slice_get ms k ≡ Some m → bytes_eq m.name x ≡ false) → given (values_of h ms vs) x ≡ no_value
absent h [] vs x a = refl
absent h (m ∷ ms) [] x a = refl
absent h (m ∷ ms) (v ∷ vs) x a = skip (picks h m.kind) m.name v (values_of h ms vs) x (a zero m refl) ∙ absent h ms vs x (λ k o e. a (suc k) o e)

own : (b : Bool) (y : List ℕ) (v : Option Value) (gs : List Given) → b ≡ true → given gs y ≡ no_value → given (given_if b y v ++ gs) y ≡ value_or_none v
own true y (Some w) gs e n = ap (λ b. if b then w else given gs y) ((bytes_eq-Decides y y).1 refl)
own true y None gs e n = n
own false y v gs e n = absurd_bool e

-- ---- values

abbrev at : List (Option Value) → ℕ → Value
at vs k = value_or_none (slice_get (values_or_none vs) k)

named : (h : Heading) (items : List PlainFlatItem) (vs : List (Option Value)) → AreDistinct (map (λ m. m.name) items) → (k : ℕ) (m : PlainFlatItem) → slice_get items k ≡ Some m → picks h m.kind ≡ true → at vs k ≡ given (values_of h items vs) m.name
named h [] vs d k m e p = absurd (let f : None ≡ Some m = e in cc)
named h (i ∷ is) [] d k m e p = refl
named h (i ∷ is) (v ∷ vs) d zero m e p =
    let same : i ≡ m = let f : Some i ≡ Some m = e in cc in
    subst (λ (j : PlainFlatItem). picks h j.kind ≡ true → value_or_none v ≡ given (values_of h (i ∷ is) (v ∷ vs)) j.name) same
    (λ q. sym (own (picks h i.kind) i.name v (values_of h is vs) q (absent h is vs i.name (λ n o f. apart_from i is d n o f)))) p
named h (i ∷ is) (v ∷ vs) d (suc k) m e p =
    named h is vs (rest_distinct i.name (map (λ (j : PlainFlatItem). j.name) is) d) k m e p
    ∙ sym (skip (picks h i.kind) i.name v (values_of h is vs) m.name (other_way m.name i.name (apart_from i is d k m e)))

by_kind : (s l : Valuation) (x : List ℕ) (v : Value) (kind : ItemKind) → (picks heading.State kind ≡ true → v ≡ s x) → (picks heading.Input kind ≡ true → v ≡ l x) → GivesKind s l x v kind
by_kind s l x v State f g = f refl
by_kind s l x v Frozen f g = f refl
by_kind s l x v Input f g = g refl
by_kind s l x v Define f g = tt
by_kind s l x v Actual f g = tt

item_gives : (items : List PlainFlatItem) (vs : List (Option Value)) → AreDistinct (map (λ m. m.name) items) → (k : ℕ) (o : Option PlainFlatItem) → slice_get items k ≡ o
    → GivesItem (given (values_of heading.State items vs)) (given (values_of heading.Input items vs)) (at vs k) o
item_gives items vs d k None e = tt
item_gives items vs d k (Some m) e = by_kind (given (values_of heading.State items vs)) (given (values_of heading.Input items vs)) m.name (at vs k) m.kind (λ p. named heading.State items vs d k m e p) (λ p. named heading.Input items vs d k m e p)

pub numbers_give : (items : List FlatItem) (vs : List (Option Value)) (values : List Seen) → AreDistinct (map (λ m. m.name) (map item_plain items)) → length values ≡ length items → map seen_value values ≡ values_or_none vs
    → IsGiven items (given (values_of heading.State (map item_plain items) vs)) (given (values_of heading.Input (map item_plain items) vs)) values
numbers_give items vs values d size e = record {
  size = size;
  variables = λ k.
      let s = given (values_of heading.State (map item_plain items) vs) in
      let l = given (values_of heading.Input (map item_plain items) vs) in
      let is : at vs k ≡ row_values values k = ap (λ (xs : List Value). value_or_none (slice_get xs k)) (sym e) ∙ value_is values k in
      subst (GivesItem s l (row_values values k)) (slice_get-map item_plain items k)
      (subst (λ v. GivesItem s l v (slice_get (map item_plain items) k)) is (item_gives (map item_plain items) vs d k (slice_get (map item_plain items) k) refl));
}

pub carries : (flat : FlatParts) (carried : List Value) (values : List Seen) → AreDistinct (map (λ m. m.name) (parts_plain flat).items) → map seen_value values ≡ carried → CarriesValues flat carried values
carries flat carried values d e = λ vs size f. numbers_give flat.items.now vs values d (sym (length-map values seen_value) ∙ ap length (e ∙ f) ∙ length-map vs value_or_none ∙ size) (e ∙ f)

-- ---- changes

pub set_as_stated : (vs : List (Option Value)) (cs : List Change) → set_by (values_or_none vs) cs ≡ values_or_none (stated_by vs cs)
set_as_stated vs [] = refl
set_as_stated vs (c ∷ cs) = ap (λ xs. set_by xs cs) (sym (map-set value_or_none vs c.item (Some c.value))) ∙ set_as_stated (set vs c.item (Some c.value)) cs
