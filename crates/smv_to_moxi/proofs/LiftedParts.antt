-- The variables of a part of a step stand one behind the other in the system, in flat order.
use Rattle.std.proofs.Common.{◌≡◌, ℕ, zero, suc, ◌+◌, ◌<◌, ◌≤◌, Bool, true, false, cond, List, [], ◌∷◌, ◌++◌, length, map, take, drop, Some, refl, sym, ap, ◌∙◌, subst, arith, length-append, append_assoc, append-nil}
use Rattle.std.specs.Prelude.{slice_get, slice_index_or}
use Rattle.std.specs.Option.{option_map}
use Rattle.std.proofs.lemmas.List.{take_more, drop_more, drop_all}
use Rattle.std.proofs.lemmas.List.Elements.{filter-append}
use Rattle.std.proofs.lemmas.Option.{slice_get-map, slice_get_within, slice_get_read, get_or_from_slice_get}
use Rattle.smv_items.specs.declared.items.ItemKind.{ItemKind}
use Rattle.smv_items.specs.declared.items.ItemKind.TheVariants as kind
use Rattle.smv_items.specs.declared.items.FlatItem.{FlatItem}
use Rattle.smv_items.specs.FlatItems.{PlainFlatItem}
use Rattle.smv_items.specs.FlatItemView.{item_plain}
use Rattle.smv_meaning.specs.declared.value.Given.{Given}
use Rattle.smv_flatten.specs.FlatModel.{FlatModel}
use Rattle.moxi_terms.specs.declared.data.Sort.{Sort}
use Rattle.moxi_terms.specs.declared.data.Datum.{Datum}
use Rattle.moxi_terms.specs.declared.term.Enumeration.{Enumeration}
use Rattle.moxi_terms.specs.declared.term.Variable.{Variable}
use Rattle.moxi_terms.specs.Operators.{nothing}
use Rattle.moxi_terms.specs.Sorts.{IsOf, Fit}
use Rattle.moxi_terms.specs.Tree.{sorts_of}
use Rattle.moxi_terms.specs.Value.{at, Values}
use Rattle.smv_script.specs.Codes.{sort_of}
use Rattle.smv_script.specs.Script.{group_of, same_group, group_start, items_in, place_among, place_of_item, symbol_sort}
use Rattle.smv_script_laws.specs.PlaceLaws.{all_variables}
use Rattle.smv_script_laws.proofs.Places.{has_place_law}
use Rattle.smv_script_laws.specs.Decoding.{decoded_from}
use Rattle.smv_to_moxi.specs.declared.lift.Part.{Part}
use Rattle.smv_to_moxi.specs.declared.lift.Part.TheVariants.{State, Label}
use Rattle.smv_to_moxi.specs.Lifting.{IsStepOf, picks, group_in, given_here}

-- ---- which items a part picks

pub picks_group : (p : Part) (k : ItemKind) → picks p k ≡ same_group (group_in p) (group_of k)
picks_group State kind.State = refl
picks_group State kind.Frozen = refl
picks_group State kind.Input = refl
picks_group State kind.Define = refl
picks_group State kind.Actual = refl
picks_group Label kind.State = refl
picks_group Label kind.Frozen = refl
picks_group Label kind.Input = refl
picks_group Label kind.Define = refl
picks_group Label kind.Actual = refl

in_group : (p : Part) (k : ItemKind) → picks p k ≡ true → group_of k ≡ group_in p
in_group State kind.State e = refl
in_group State kind.Frozen e = refl
in_group State kind.Input e = cc
in_group State kind.Define e = cc
in_group State kind.Actual e = cc
in_group Label kind.State e = cc
in_group Label kind.Frozen e = cc
in_group Label kind.Input e = refl
in_group Label kind.Define e = cc
in_group Label kind.Actual e = cc

-- ---- how many variables of a part are before the numbered item

abbrev pub before : Part → List PlainFlatItem → ℕ → ℕ
before p items k = length (items_in (group_in p) (take k items))

abbrev pub one_if : Bool → ℕ
one_if b = cond b 1 0

module _ (p : Part) (items : List PlainFlatItem) where
  alone : (m : PlainFlatItem) (b : Bool) → same_group (group_in p) (group_of m.kind) ≡ b → length (items_in (group_in p) (m ∷ [])) ≡ one_if b
  alone m true e = ap (λ b. length (cond b (m ∷ []) [])) e
  alone m false e = ap (λ b. length (cond b (m ∷ []) [])) e

  pub before_more : (k : ℕ) (m : PlainFlatItem) → slice_get items k ≡ Some m → before p items (k + 1) ≡ before p items k + one_if (picks p m.kind)
  before_more k m h =
      let more : take (k + 1) items ≡ take k items ++ m ∷ [] = take_more items k m (slice_get_within items k m h) ∙ ap (λ x. take k items ++ x ∷ []) (get_or_from_slice_get items k m m h) in
      ap (λ ms. length (items_in (group_in p) ms)) more
      ∙ ap length (filter-append (λ x. same_group (group_in p) (group_of x.kind)) (take k items) (m ∷ []))
      ∙ length-append (items_in (group_in p) (take k items)) (items_in (group_in p) (m ∷ []))
      ∙ ap (λ n. before p items k + n) (alone m (picks p m.kind) (sym (picks_group p m.kind)))

  pub place_read : (k : ℕ) (m : PlainFlatItem) → slice_get items k ≡ Some m → picks p m.kind ≡ true → place_of_item items k ≡ group_start items (group_in p) + before p items k
  place_read k m h e = ap (place_among items k) h ∙ ap (λ g. group_start items g + length (items_in g (take k items))) (in_group p m.kind e)

-- ---- what is read of the items from one on

module _ (symbols : List (List ℕ)) (place : ℕ → ℕ) (p : Part) (env : Values) (items : List PlainFlatItem) where
  abbrev pub rest_read : ℕ → List Given
  rest_read k = decoded_from symbols place (picks p) env k (drop k items)

  abbrev given_if : Bool → ℕ → PlainFlatItem → List Given
  given_if b k m = cond b (given_here symbols m (env (place k)) ∷ []) []

  read_more : (k : ℕ) (m : PlainFlatItem) → slice_get items k ≡ Some m → rest_read k ≡ given_if (picks p m.kind) k m ++ rest_read (k + 1)
  read_more k m h =
      ap (decoded_from symbols place (picks p) env k) (drop_more items k m (slice_get_within items k m h) ∙ ap (λ y. y ∷ drop (k + 1) items) (get_or_from_slice_get items k m m h))

  pub read_picked : (k : ℕ) (m : PlainFlatItem) → slice_get items k ≡ Some m → picks p m.kind ≡ true → rest_read k ≡ given_here symbols m (env (place k)) ∷ rest_read (k + 1)
  read_picked k m h e = read_more k m h ∙ ap (λ b. given_if b k m ++ rest_read (k + 1)) e

  pub read_passed : (k : ℕ) (m : PlainFlatItem) → slice_get items k ≡ Some m → picks p m.kind ≡ false → rest_read k ≡ rest_read (k + 1)
  read_passed k m h e = read_more k m h ∙ ap (λ b. given_if b k m ++ rest_read (k + 1)) e

-- ---- the datum of an item

pub fit_at : (es : List Enumeration) (ss : List Sort) (vs : List Datum) (v : ℕ) (s : Sort) → Fit es ss vs → slice_get ss v ≡ Some s → (v < length vs) × IsOf es s (at vs v)
fit_at es [] vs v s f h = cc
fit_at es (t ∷ ss) [] v s f h = absurd f
fit_at es (t ∷ ss) (x ∷ vs) zero s f h = let e : t ≡ s = cc in (omega arith, subst (λ u. IsOf es u x) e f.0)
fit_at es (t ∷ ss) (x ∷ vs) (suc v) s f h = let r = fit_at es ss vs v s f.1 h in (omega (arith, r.0), r.1)

-- what is read at a place
datum_read : (vs : List Datum) (v : ℕ) (d : Datum) → v < length vs → d ≡ slice_index_or vs v d → d ≡ at vs v
datum_read vs v d l e = sym (get_or_from_slice_get vs v d nothing (slice_get_read vs (length vs) v d refl l e))

abbrev pub items_of : FlatModel → List PlainFlatItem
items_of f = map item_plain f.items

pub plain_there : (items : List FlatItem) (k : ℕ) (m : FlatItem) → slice_get items k ≡ Some m → slice_get (map item_plain items) k ≡ Some (item_plain m)
plain_there items k m h = slice_get-map item_plain items k ∙ ap (option_map item_plain) h

-- the item at which a loop over the list stands
pub item_here : (f : FlatModel) (xs : List FlatItem) (k : ℕ) (m : FlatItem) → xs ≡ f.items → k < length xs → m ≡ slice_index_or xs k m → slice_get (items_of f) k ≡ Some (item_plain m)
item_here f xs k m whole l e = plain_there f.items k m (ap (λ (ys : List FlatItem). slice_get ys k) (sym whole) ∙ slice_get_read xs (length xs) k m refl l e)

item_datum : (f : FlatModel) (env : List Datum) (k : ℕ) (m : PlainFlatItem) → IsStepOf f env → slice_get (items_of f) k ≡ Some m
    → (place_of_item (items_of f) k < length env) × IsOf (symbol_sort f.symbols) (sort_of f.width m.type) (at env (place_of_item (items_of f) k))
item_datum f env k m s h =
    let v = place_of_item (items_of f) k in
    let sort_at = λ (x : Variable). x.sort in
    fit_at (symbol_sort f.symbols) (sorts_of (all_variables f.width (items_of f))) env v (sort_of f.width m.type) s
    (slice_get-map sort_at (all_variables f.width (items_of f)) v ∙ ap (option_map sort_at) (has_place_law f.width (items_of f) k m h))

-- an item that the part picks, and the number of its variable
module _ (f : FlatModel) (p : Part) (env : List Datum) (k place : ℕ) (m : PlainFlatItem)
    (step : IsStepOf f env) (h : slice_get (items_of f) k ≡ Some m) (e : picks p m.kind ≡ true) (q : place ≡ group_start (items_of f) (group_in p) + before p (items_of f) k) where
  place_is : place_of_item (items_of f) k ≡ place
  place_is = place_read p (items_of f) k m h e ∙ sym q

  pub place_within : place < length env
  place_within = subst (λ v. v < length env) place_is (item_datum f env k m step h).0

  same_datum : (d : Datum) → d ≡ slice_index_or env place d → d ≡ at env (place_of_item (items_of f) k)
  same_datum d r = datum_read env place d place_within r ∙ ap (at env) (sym place_is)

  pub datum_sorted : (d : Datum) → d ≡ slice_index_or env place d → IsOf (symbol_sort f.symbols) (sort_of f.width m.type) d
  datum_sorted d r = subst (IsOf (symbol_sort f.symbols) (sort_of f.width m.type)) (sym (same_datum d r)) (item_datum f env k m step h).1

  pub read_next : (state : List Given) (g : Given) (d : Datum) → d ≡ slice_index_or env place d → g ≡ given_here f.symbols m d
      → (state ++ g ∷ []) ++ rest_read f.symbols (place_of_item (items_of f)) p (at env) (items_of f) (k + 1) ≡ state ++ rest_read f.symbols (place_of_item (items_of f)) p (at env) (items_of f) k
  read_next state g d r w =
      let rest = rest_read f.symbols (place_of_item (items_of f)) p (at env) (items_of f) in
      append_assoc state (g ∷ []) (rest (k + 1))
      ∙ ap (λ x. state ++ x ∷ rest (k + 1)) (w ∙ ap (given_here f.symbols m) (same_datum d r))
      ∙ ap (λ gs. state ++ gs) (sym (read_picked f.symbols (place_of_item (items_of f)) p (at env) (items_of f) k m h e))

-- ---- at the end

pub take_whole : {X : Type 0} (xs : List X) (k : ℕ) → length xs ≤ k → take k xs ≡ xs
take_whole [] zero l = refl
take_whole [] (suc k) l = refl
take_whole (x ∷ xs) zero l = absurd (omega (arith, l))
take_whole (x ∷ xs) (suc k) l = ap (λ ys. x ∷ ys) (take_whole xs k (omega (arith, l)))

pub before_end : (p : Part) (items : List PlainFlatItem) (k : ℕ) → length items ≤ k → before p items k ≡ length (items_in (group_in p) items)
before_end p items k l = ap (λ ms. length (items_in (group_in p) ms)) (take_whole items k l)

pub read_end : (symbols : List (List ℕ)) (place : ℕ → ℕ) (p : Part) (env : Values) (items : List PlainFlatItem) (state : List Given) (k : ℕ) → length items ≤ k
    → state ++ rest_read symbols place p env items k ≡ state
read_end symbols place p env items state k l = ap (λ ms. state ++ decoded_from symbols place (picks p) env k ms) (drop_all k items l) ∙ append-nil state
