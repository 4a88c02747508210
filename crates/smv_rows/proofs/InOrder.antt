-- Values in the order of the items are those that names give, where no two items have one name.
use Rattle.std.proofs.Common.{◌≡◌, ℕ, zero, suc, Bool, true, false, cond, if◌then◌else◌, List, [], ◌∷◌, map, length, Option, Some, None, option_map, bytes_eq, refl, sym, ap, ◌∙◌, subst}
use Rattle.std.specs.List.{slice_get, filter}
use Rattle.std.proofs.lemmas.List.{length-map}
use Rattle.std.proofs.lemmas.Option.{slice_get-map}
use Rattle.std.proofs.lemmas.Slice.Eq.{bytes_eq-Decides}
use Rattle.name_maps.specs.Names.{place_of}
use Rattle.name_maps.specs.Tables.{AreDistinct}
use Rattle.smv_meaning.specs.declared.value.Value.{Value}
use Rattle.smv_meaning.specs.declared.value.Given.{Given}
use Rattle.smv_meaning.specs.Values.{Valuation, given}
use Rattle.smv_meaning.specs.laws.Booleans.{both_true, absurd_bool}
use Rattle.smv_items.specs.declared.items.ItemKind.{ItemKind}
use Rattle.smv_items.specs.declared.items.ItemKind.TheVariants.{State, Frozen, Input, Define, Actual}
use Rattle.smv_items.specs.declared.items.FlatItem.{FlatItem}
use Rattle.smv_items.specs.FlatItems.{PlainFlatItem}
use Rattle.smv_items.specs.FlatItemView.{item_plain}
use Rattle.smv_operators.specs.declared.seen.Seen.{Seen}
use Rattle.smv_operators.specs.View.{seen_value}
use Rattle.smv_flat.specs.FlatTruth.{GivesKind, GivesItem}
use Rattle.smv_flat_laws.proofs.FlatPlaces.{position_cons}
use Rattle.smv_flat_evaluation.specs.RowValues.{seen_or_none, row_values}
use Rattle.smv_rows.specs.Listed.{is_in_state, are_named_after, lists_state, lists_label, AreListed, next_value, state_left, label_left, listed_values}
use Rattle.smv_rows.specs.Numbered.{value_or_none}
use Rattle.smv_rows.specs.Places.{IsGiven}
use Rattle.smv_rows.specs.RowOrders.{is_input}

-- ---- names

later : (b : Bool) (o : Option ℕ) (k : ℕ) → (if b then Some 0 else option_map suc o) ≡ Some (suc k) → (b ≡ false) × (o ≡ Some k)
later true o k h = cc
later false None k h = cc
later false (Some n) k h = let e : n ≡ k = cc in (refl, ap Some e)

behind : (x : List ℕ) (xs : List (List ℕ)) → AreDistinct (x ∷ xs) → (k : ℕ) (y : List ℕ) → slice_get xs k ≡ Some y → (bytes_eq y x ≡ false) × (place_of xs y ≡ Some k)
behind x xs d k y e = later (bytes_eq y x) (place_of xs y) k (sym (position_cons (bytes_eq y) x xs) ∙ d (suc k) y e)

pub rest_distinct : (x : List ℕ) (xs : List (List ℕ)) → AreDistinct (x ∷ xs) → AreDistinct xs
rest_distinct x xs d k y e = (behind x xs d k y e).1

-- the first of these names is that of the first value
record Begins (m : PlainFlatItem) (ms : List PlainFlatItem) (g : Given) (gs : List Given) : Type 0 where
  pub name : m.name ≡ g.name
  pub rest : are_named_after ms gs ≡ true

begins : (m : PlainFlatItem) (ms : List PlainFlatItem) (g : Given) (gs : List Given) → are_named_after (m ∷ ms) (g ∷ gs) ≡ true → Begins m ms g gs
begins m ms g gs h = let b = both_true (bytes_eq m.name g.name) (are_named_after ms gs) h in record { name = (bytes_eq-Decides m.name g.name).0 b.0; rest = b.1 }

own_value : (x : List ℕ) (g : Given) (gs : List Given) → x ≡ g.name → g.value ≡ given (g ∷ gs) x
own_value x g gs e = sym (ap (λ b. if b then g.value else given gs x) ((bytes_eq-Decides g.name x).1 (sym e)))

passed : (x y : List ℕ) (g : Given) (gs : List Given) → x ≡ g.name → bytes_eq y x ≡ false → given gs y ≡ given (g ∷ gs) y
passed x y g gs e h = sym (ap (λ b. if b then g.value else given gs y) (apart (bytes_eq g.name y) refl))
  where
    apart : (b : Bool) → bytes_eq g.name y ≡ b → bytes_eq g.name y ≡ false
    apart false is = is
    apart true is =
        let same : y ≡ x = sym ((bytes_eq-Decides g.name y).0 is) ∙ sym e in
        absurd_bool (sym h ∙ (bytes_eq-Decides y x).1 same)

-- ---- values

abbrev At : List PlainFlatItem → (s l : List Given) → (t u : Valuation) → ℕ → Type 0
At items s l t u k = GivesItem t u (value_or_none (slice_get (listed_values (map (λ m. m.kind) items) s l) k)) (slice_get items k)

kind_moves : (s t l u : Valuation) (x : List ℕ) (v : Value) (kind : ItemKind) → s x ≡ t x → l x ≡ u x → GivesKind s l x v kind → GivesKind t u x v kind
kind_moves s t l u x v State e f h = h ∙ e
kind_moves s t l u x v Frozen e f h = h ∙ e
kind_moves s t l u x v Input e f h = h ∙ f
kind_moves s t l u x v Define e f h = tt
kind_moves s t l u x v Actual e f h = tt

item_moves : (s t l u : Valuation) (v : Value) (o : Option PlainFlatItem) → ((m : PlainFlatItem) → o ≡ Some m → (s m.name ≡ t m.name) × (l m.name ≡ u m.name)) → GivesItem s l v o → GivesItem t u v o
item_moves s t l u v None e h = tt
item_moves s t l u v (Some m) e h = let same = e m refl in kind_moves s t l u m.name v m.kind same.0 same.1 h

-- the name of an item behind the first differs from the first one's
pub apart_from : (m : PlainFlatItem) (ms : List PlainFlatItem) → AreDistinct (map (λ i. i.name) (m ∷ ms)) → (k : ℕ) (o : PlainFlatItem) → slice_get ms k ≡ Some o → bytes_eq o.name m.name ≡ false
apart_from m ms d k o e =
    (behind m.name (map (λ (i : PlainFlatItem). i.name) ms) d k o.name (slice_get-map (λ (i : PlainFlatItem). i.name) ms k ∙ ap (option_map (λ (i : PlainFlatItem). i.name)) e)).0

-- the value of the first item
first_is : (m : PlainFlatItem) (ms ls : List PlainFlatItem) (s l : List Given) (kind : ItemKind) → are_named_after (cond (is_in_state kind) (m ∷ ms) ms) s ≡ true → are_named_after (cond (is_input kind) (m ∷ ls) ls) l ≡ true
    → GivesKind (given s) (given l) m.name (next_value kind s l) kind
first_is m ms ls [] l State hs hl = absurd_bool hs
first_is m ms ls (g ∷ s) l State hs hl = own_value m.name g s (begins m ms g s hs).name
first_is m ms ls [] l Frozen hs hl = absurd_bool hs
first_is m ms ls (g ∷ s) l Frozen hs hl = own_value m.name g s (begins m ms g s hs).name
first_is m ms ls s [] Input hs hl = absurd_bool hl
first_is m ms ls s (g ∷ l) Input hs hl = own_value m.name g l (begins m ls g l hl).name
first_is m ms ls s l Define hs hl = tt
first_is m ms ls s l Actual hs hl = tt

-- what holds of the items behind the first with what is left holds of them with all
abbrev Later : PlainFlatItem → List PlainFlatItem → (s l : List Given) → ItemKind → Type 0
Later m ms s l kind = (k : ℕ) → At ms (state_left kind s) (label_left kind l) (given s) (given l) k

abbrev Hypothesis : List PlainFlatItem → Type 0
Hypothesis ms = (s l : List Given) → lists_state ms s ≡ true → lists_label ms l ≡ true → (k : ℕ) → At ms s l (given s) (given l) k

later_are : (m : PlainFlatItem) (ms : List PlainFlatItem) → AreDistinct (map (λ i. i.name) (m ∷ ms)) → Hypothesis ms → (s l : List Given) (kind : ItemKind)
    → are_named_after (cond (is_in_state kind) (m ∷ filter (λ i. is_in_state i.kind) ms) (filter (λ i. is_in_state i.kind) ms)) s ≡ true
    → are_named_after (cond (is_input kind) (m ∷ filter (λ i. is_input i.kind) ms) (filter (λ i. is_input i.kind) ms)) l ≡ true
    → Later m ms s l kind
later_are m ms d by [] l State hs hl k = absurd_bool hs
later_are m ms d by (g ∷ s) l State hs hl k =
    let b = begins m (filter (λ (i : PlainFlatItem). is_in_state i.kind) ms) g s hs in
    item_moves (given s) (given (g ∷ s)) (given l) (given l) _ (slice_get ms k) (λ o e. (passed m.name o.name g s b.name (apart_from m ms d k o e), refl)) (by s l b.rest hl k)
later_are m ms d by [] l Frozen hs hl k = absurd_bool hs
later_are m ms d by (g ∷ s) l Frozen hs hl k =
    let b = begins m (filter (λ (i : PlainFlatItem). is_in_state i.kind) ms) g s hs in
    item_moves (given s) (given (g ∷ s)) (given l) (given l) _ (slice_get ms k) (λ o e. (passed m.name o.name g s b.name (apart_from m ms d k o e), refl)) (by s l b.rest hl k)
later_are m ms d by s [] Input hs hl k = absurd_bool hl
later_are m ms d by s (g ∷ l) Input hs hl k =
    let b = begins m (filter (λ (i : PlainFlatItem). is_input i.kind) ms) g l hl in
    item_moves (given s) (given s) (given l) (given (g ∷ l)) _ (slice_get ms k) (λ o e. (refl, passed m.name o.name g l b.name (apart_from m ms d k o e))) (by s l hs b.rest k)
later_are m ms d by s l Define hs hl k = by s l hs hl k
later_are m ms d by s l Actual hs hl k = by s l hs hl k

values_are : (items : List PlainFlatItem) → AreDistinct (map (λ m. m.name) items) → Hypothesis items
values_are [] d s l hs hl k = tt
values_are (m ∷ ms) d s l hs hl zero = first_is m (filter (λ (i : PlainFlatItem). is_in_state i.kind) ms) (filter (λ (i : PlainFlatItem). is_input i.kind) ms) s l m.kind hs hl
values_are (m ∷ ms) d s l hs hl (suc k) =
    later_are m ms d (values_are ms (rest_distinct m.name (map (λ (i : PlainFlatItem). i.name) ms) d)) s l m.kind hs hl k

-- ---- the code's values

seen_is : (o : Option Seen) → value_or_none (option_map seen_value o) ≡ seen_or_none o
seen_is None = refl
seen_is (Some v) = refl

pub value_is : (values : List Seen) (k : ℕ) → value_or_none (slice_get (map seen_value values) k) ≡ row_values values k
unfolding row_values
value_is values k = ap value_or_none (slice_get-map seen_value values k) ∙ seen_is (slice_get values k)

length_is : (ks : List ItemKind) (s l : List Given) → length (listed_values ks s l) ≡ length ks
length_is [] s l = refl
length_is (k ∷ ks) s l = ap suc (length_is ks (state_left k s) (label_left k l))

same_kinds : (items : List FlatItem) → map (λ m. m.kind) items ≡ map (λ m. m.kind) (map item_plain items)
same_kinds [] = refl
same_kinds (m ∷ ms) = ap (λ (ks : List ItemKind). m.kind ∷ ks) (same_kinds ms)

pub listed_give : (items : List FlatItem) (s l : List Given) (values : List Seen) → AreListed (map item_plain items) s l → map seen_value values ≡ listed_values (map (λ m. m.kind) items) s l → IsGiven items (given s) (given l) values
listed_give items s l values a e = record {
  size = sym (length-map values seen_value) ∙ ap length e ∙ length_is (map (λ (m : FlatItem). m.kind) items) s l ∙ length-map items (λ m. m.kind);
  variables = λ k.
      let is : value_or_none (slice_get (listed_values (map (λ (m : PlainFlatItem). m.kind) (map item_plain items)) s l) k) ≡ row_values values k =
      ap (λ (ks : List ItemKind). value_or_none (slice_get (listed_values ks s l) k)) (sym (same_kinds items)) ∙ ap (λ (vs : List Value). value_or_none (slice_get vs k)) (sym e) ∙ value_is values k in
      subst (GivesItem (given s) (given l) (row_values values k)) (slice_get-map item_plain items k)
      (subst (λ v. GivesItem (given s) (given l) v (slice_get (map item_plain items) k)) is (values_are (map item_plain items) a.apart s l a.in_state a.in_label k));
}

-- the same of what the code reads of the state and the label
pub listed_given : (items : List FlatItem) (s l state label : List Given) (values : List Seen) → state ≡ s → label ≡ l → AreListed (map item_plain items) s l → map seen_value values ≡ listed_values (map (λ m. m.kind) items) state label → IsGiven items (given s) (given l) values
listed_given items s l state label values e f a is =
    listed_give items s l values a (is ∙ ap (λ (x : List Given). listed_values (map (λ (m : FlatItem). m.kind) items) x label) e ∙ ap (listed_values (map (λ (m : FlatItem). m.kind) items) s) f)
