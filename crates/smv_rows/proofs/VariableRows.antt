-- Rows that were given the values of a state and a label.
use Rattle.std.proofs.Common.{◌≡◌, ℕ, zero, suc, ◌<◌, Bool, true, false, ◌==◌, if◌then◌else◌, List, [], ◌∷◌, ◌++◌, map, set, get_or, length, Option, Some, option_map, bytes_eq, refl, sym, ap, ◌∙◌, subst}
use Rattle.std.specs.List.{slice_get}
use Rattle.std.proofs.lemmas.Slice.Eq.{bytes_eq-Decides}
use Rattle.std.proofs.lemmas.List.Quantifiers.{position-Some}
use Rattle.name_maps.specs.Names.{place_of}
use Rattle.smv_meaning.specs.declared.value.Value.{Value}
use Rattle.smv_meaning.specs.Values.{Valuation, no_value}
use Rattle.smv_operators.specs.declared.seen.Seen.{Seen}
use Rattle.smv_operators.specs.View.{seen_value}
use Rattle.smv_items.specs.declared.items.ItemKind.{ItemKind}
use Rattle.smv_items.specs.declared.items.ItemKind.TheVariants.{State, Frozen, Input, Define, Actual}
use Rattle.smv_items.specs.declared.items.FlatItem.{FlatItem}
use Rattle.smv_items.specs.FlatItemView.{item_plain}
use Rattle.smv_flat.specs.FlatTree.{FlatTree, flat_denote}
use Rattle.smv_flat.specs.FlatTruth.{GivesKind, GivesItem}
use Rattle.smv_flat_evaluation.specs.RowValues.{seen_or_none, row_values}
use Rattle.smv_rows.specs.Filling.{with_body}
use Rattle.smv_rows.specs.Places.{kind_and_place, item_place, NamesHave, value_of_kind, given_value}
use Rattle.smv_rows.specs.declared.places.ItemPlace.{ItemPlace}
use Rattle.smv_rows.proofs.Sets.{get_set_same, get_set_other}
use Rattle.digraph.proofs.Lists.{same}

kind_given : (names : List (List ℕ)) (s l : Valuation) (state label : List Seen) → NamesHave names s state → NamesHave names l label → (x : List ℕ) (p : ℕ) → place_of names x ≡ Some p
    → (v : Value) (kind : ItemKind) → v ≡ value_of_kind state label p kind → GivesKind s l x v kind
kind_given names s l state label h g x p is v State e = e ∙ h x p is
kind_given names s l state label h g x p is v Frozen e = e ∙ h x p is
kind_given names s l state label h g x p is v Input e = e ∙ g x p is
kind_given names s l state label h g x p is v Define e = tt
kind_given names s l state label h g x p is v Actual e = tt

item_given : (names : List (List ℕ)) (s l : Valuation) (state label : List Seen) → NamesHave names s state → NamesHave names l label
    → (items : List FlatItem) (places : List ItemPlace) (values : List Seen) → map kind_and_place places ≡ map (item_place names) items → map seen_value values ≡ map (given_value state label) places
    → (k : ℕ) → GivesItem s l (seen_or_none (slice_get values k)) (option_map item_plain (slice_get items k))
item_given names s l state label h g [] places values e f k = tt
item_given names s l state label h g (m ∷ ms) [] values e f k = cc
item_given names s l state label h g (m ∷ ms) (i ∷ is) [] e f k = cc
item_given names s l state label h g (m ∷ ms) (i ∷ is) (v ∷ vs) e f zero =
    let front : kind_and_place i ≡ item_place names m = cc in
    let kind : i.kind ≡ m.kind = ap (λ (p : ItemKind × Option ℕ). p.0) front in
    let place : Some i.place ≡ place_of names m.name = ap (λ (p : ItemKind × Option ℕ). p.1) front in
    let value : seen_value v ≡ given_value state label i = cc in
    kind_given names s l state label h g m.name i.place (sym place) (seen_value v) m.kind (value ∙ ap (value_of_kind state label i.place) kind)
item_given names s l state label h g (m ∷ ms) (i ∷ is) (v ∷ vs) e f (suc k) =
    let places : map kind_and_place is ≡ map (item_place names) ms = cc in
    let values : map seen_value vs ≡ map (given_value state label) is = cc in
    item_given names s l state label h g ms is vs places values k

pub row_given : (names : List (List ℕ)) (s l : Valuation) (state label : List Seen) → NamesHave names s state → NamesHave names l label
    → (items : List FlatItem) (places : List ItemPlace) (values : List Seen) → map kind_and_place places ≡ map (item_place names) items → map seen_value values ≡ map (given_value state label) places
    → (k : ℕ) → GivesItem s l (row_values values k) (option_map item_plain (slice_get items k))
unfolding row_values
row_given names s l state label h g items places values e f k = item_given names s l state label h g items places values e f k

-- ---- one value after another

pub set_same : (xs : List Seen) (k : ℕ) (v : Seen) → k < length xs → row_values (set xs k v) k ≡ seen_value v
unfolding row_values
set_same xs k v h = ap seen_or_none (get_set_same xs k v h)

pub set_other : (xs : List Seen) (k m : ℕ) (v : Seen) → (k == m) ≡ false → row_values (set xs k v) m ≡ row_values xs m
unfolding row_values
set_other xs k m v h = ap seen_or_none (get_set_other xs k m v h)

set_at : (symbols : ℕ → Value) (xs : List Seen) (k : ℕ) (v : Seen) (e : FlatTree) → k < length xs → seen_value v ≡ (flat_denote symbols (row_values xs) (row_values xs) e).value
    → (m : ℕ) → row_values (set xs k v) m ≡ with_body symbols (row_values xs) k (Some e) m
set_at symbols xs k v e h g m = by (k == m) refl
  where
    by : (b : Bool) → (k == m) ≡ b → row_values (set xs k v) m ≡ (if k == m then (flat_denote symbols (row_values xs) (row_values xs) e).value else row_values xs m)
    by true is =
        subst (λ n. row_values (set xs k v) n ≡ seen_value v) (same k m is) (set_same xs k v h) ∙ g
        ∙ sym (ap (λ b. if b then (flat_denote symbols (row_values xs) (row_values xs) e).value else row_values xs m) is)
    by false is = set_other xs k m v is ∙ sym (ap (λ b. if b then (flat_denote symbols (row_values xs) (row_values xs) e).value else row_values xs m) is)

pub body_set : (symbols : ℕ → Value) (xs : List Seen) (k : ℕ) (v : Seen) (e : FlatTree) → k < length xs → seen_value v ≡ (flat_denote symbols (row_values xs) (row_values xs) e).value
    → row_values (set xs k v) ≡ with_body symbols (row_values xs) k (Some e)
body_set symbols xs k v e h g = λ i m. set_at symbols xs k v e h g m i

-- ---- names

one_place : (names : List (List ℕ)) (name x : List ℕ) (q p : ℕ) → place_of names name ≡ Some q → place_of names x ≡ Some p → (q == p) ≡ true → bytes_eq name x ≡ true
one_place names name x q p at is same_place =
    let e : q ≡ p = same q p same_place in
    let f = (bytes_eq-Decides name (get_or names q [])).0 (position-Some (bytes_eq name) names q [] at).1 in
    let g = (bytes_eq-Decides x (get_or names p [])).0 (position-Some (bytes_eq x) names p [] is).1 in
    let h : name ≡ x = f ∙ ap (λ n. get_or names n []) e ∙ sym g in
    (bytes_eq-Decides name x).1 h

some_place : (names : List (List ℕ)) (name x : List ℕ) (q p : ℕ) (xs : List Seen) (u : Seen) → q < length xs → place_of names name ≡ Some q → place_of names x ≡ Some p
    → row_values (set xs q u) p ≡ (if bytes_eq name x then seen_value u else row_values xs p)
some_place names name x q p xs u low at is = by (bytes_eq name x) refl
  where
    by : (b : Bool) → bytes_eq name x ≡ b → row_values (set xs q u) p ≡ (if bytes_eq name x then seen_value u else row_values xs p)
    by true h =
        let e : name ≡ x = (bytes_eq-Decides name x).0 h in
        let t : place_of names x ≡ Some q = subst (λ y. place_of names y ≡ Some q) e at in
        let z : q ≡ p = cc in
        subst (λ n. row_values (set xs q u) n ≡ seen_value u) z (set_same xs q u low) ∙ sym (ap (λ b. if b then seen_value u else row_values xs p) h)
    by false h = set_other xs q p u (apart (q == p) refl h) ∙ sym (ap (λ b. if b then seen_value u else row_values xs p) h)
      where
        apart : (c : Bool) → (q == p) ≡ c → bytes_eq name x ≡ false → (q == p) ≡ false
        apart true e g = let t : bytes_eq name x ≡ true = one_place names name x q p at is e in cc
        apart false e g = e

pub one_given : (names : List (List ℕ)) (name : List ℕ) (v : Value) (q : ℕ) (xs : List Seen) (u : Seen) → q < length xs → seen_value u ≡ v → place_of names name ≡ Some q
    → (x : List ℕ) (p : ℕ) → place_of names x ≡ Some p → row_values (set xs q u) p ≡ (if bytes_eq name x then v else row_values xs p)
one_given names name v q xs u low e at x p is = some_place names name x q p xs u low at is ∙ ap (λ w. if bytes_eq name x then w else row_values xs p) e

-- ---- values that stand for none

none_on : (xs : List Seen) (v : Seen) → seen_value v ≡ no_value → ((p : ℕ) → seen_or_none (slice_get xs p) ≡ no_value) → (p : ℕ) → seen_or_none (slice_get (xs ++ v ∷ []) p) ≡ no_value
none_on [] v e h zero = e
none_on [] v e h (suc p) = refl
none_on (x ∷ xs) v e h zero = h zero
none_on (x ∷ xs) v e h (suc p) = none_on xs v e (λ q. h (suc q)) p

pub row_empty : (xs : List Seen) → xs ≡ [] → (p : ℕ) → row_values xs p ≡ no_value
unfolding row_values
row_empty xs e p = ap (λ ys. seen_or_none (slice_get ys p)) e

pub row_grown : (xs ys : List Seen) (v : Seen) → ys ≡ xs ++ v ∷ [] → seen_value v ≡ no_value → ((p : ℕ) → row_values xs p ≡ no_value) → (p : ℕ) → row_values ys p ≡ no_value
unfolding row_values
row_grown xs ys v e is h p = ap (λ zs. seen_or_none (slice_get zs p)) e ∙ none_on xs v is h p
