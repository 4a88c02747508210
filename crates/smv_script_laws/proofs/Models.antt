-- What is known of the items of a model whose checks hold, under a width that holds its integers.
use Rattle.std.proofs.Common.{◌≡◌, ℕ, zero, suc, ◌+◌, ◌≤◌, ◌<◌, true, List, [], ◌∷◌, length, position, get_or, Option, Some, None, is_some, refl, sym, ap, subst, arith}
use Rattle.std.specs.List.{slice_get, AllByRecursion}
use Rattle.std.proofs.lemmas.List.{length-map}
use Rattle.std.proofs.lemmas.List.Quantifiers.{position-Some}
use Rattle.std.proofs.lemmas.Option.{slice_get-get_or, slice_get_within}
use Rattle.std.proofs.lemmas.Slice.Eq.{bytes_eq-Decides}
use Rattle.std.specs.Str.{bytes_eq}
use Rattle.smv_text.specs.Tree.{Tree}
use Rattle.smv_meaning.specs.declared.value.Value.TheVariants.{Symbol}
use Rattle.smv_meaning.specs.Instances.{Instance}
use Rattle.smv_meaning.specs.Names.{Found, variable_at, body_at, instance_at, symbol_of, cyclic, none}
use Rattle.smv_meaning.specs.Types.{ExprType}
use Rattle.smv_meaning.specs.Checks.{typing}
use Rattle.smv_meaning.specs.Naming.{in_body}
use Rattle.smv_meaning.specs.Owed.{HasType}
use Rattle.smv_meaning.specs.Literals.{words_fit}
use Rattle.smv_meaning.specs.Settled.{Acyclic, types_in}
use Rattle.smv_meaning.specs.Checked.{IsChecked, all_trees}
use Rattle.smv_meaning.specs.laws.Booleans.{absurd_bool}
use Rattle.smv_laws.proofs.Ranked.{cycles_are_checked_law}
use Rattle.smv_laws.proofs.Typable.{has_type}
use Rattle.smv_laws.proofs.CheckedLaws.{AllTyped, checked_at, all_given, all_typed}
use Rattle.smv_items.specs.FlatItems.{Leaf, of_item, of_symbol, of_nothing, Content, variable, definition, actual, Origin, origins_of, symbols_of, is_item, item_leaf, symbol_leaf, leaf_found, content_type, type_or_truth, PlainFlatItem, flat_item_of}
use Rattle.smv_flat.specs.FlatForms.{Form, forms_of, flat_of}
use Rattle.smv_flat.specs.FlatTruth.{Row, symbol_or_none, symbol_value}
use Rattle.smv_flat_laws.proofs.FlatSame.{leaf_value}
use Rattle.smv_flat_laws.proofs.FlatRows.{all_at, item_there}
use Rattle.name_maps.specs.Names.{place_of}
use Rattle.moxi_terms.specs.declared.data.Datum.TheVariants as datum
use Rattle.moxi_terms.specs.Value.{Values}
use Rattle.smv_flat.specs.FlatWidth.{integers_width, tree_width, items_width, forms_width, width_of}
use Rattle.smv_width.specs.SourceWidth.{has_operators}
use Rattle.smv_script.specs.Codes.{number_or_zero, datum_of}
use Rattle.smv_script_laws.specs.Kinds.{IsKnown}
use Rattle.smv_script_laws.proofs.Parts.{LeafIsRepresented}
use Rattle.smv_script_laws.proofs.Bodies.{all_there, IsBody, IsGood, OriginIsGood, origins_good, HasForms, body_forms_have, forms_within}

-- the checks hold, literals are words, chains have operators, and the width holds each integer
pub record Model (t : List Instance) (width : ℕ) : Type 0 where
  pub acyclic : Acyclic t
  pub typed : AllTyped t
  pub good : AllByRecursion (OriginIsGood t) (origins_of t)
  pub some : 1 ≤ width
  pub items_wide : items_width (flat_of t).items ≤ width
  pub forms_wide : forms_width (forms_of t) ≤ width

pub model : (t : List Instance) → IsChecked t → all_trees words_fit t ≡ true → all_trees has_operators t ≡ true → Model t (width_of (flat_of t))
model t c w o =
    let a = (cycles_are_checked_law t).0 c.cycles in
    let k = checked_at t c w in
    record {
      acyclic = a;
      typed = all_typed t a (all_given t k);
      good = origins_good t k o;
      some = omega arith;
      items_wide = omega arith;
      forms_wide = omega arith;
    }

-- ---- items

some_of : {X : Type 0} (o : Option X) → is_some o ≡ true → (x : X) × (o ≡ Some x)
some_of None h = absurd_bool h
some_of (Some x) h = (x, refl)

pub origin_at : (t : List Instance) (k : ℕ) → k < length (flat_of t).items → (m : Origin) × (slice_get (origins_of t) k ≡ Some m)
origin_at t k h = by (origins_of t) k (subst (λ n. k < n) (length-map (origins_of t) (flat_item_of t)) h)
  where
    by : (ms : List Origin) (n : ℕ) → n < length ms → (m : Origin) × (slice_get ms n ≡ Some m)
    by [] n l = absurd (omega arith)
    by (m ∷ ms) zero l = (m, refl)
    by (m ∷ ms) (suc n) l = by ms n (omega arith)

pub origin_within : (t : List Instance) (k : ℕ) (m : Origin) → slice_get (origins_of t) k ≡ Some m → k < length (flat_of t).items
origin_within t k m h = subst (λ n. k < n) (sym (length-map (origins_of t) (flat_item_of t))) (slice_get_within (origins_of t) k m h)

item_wide : (ms : List PlainFlatItem) (k : ℕ) (m : PlainFlatItem) (w : ℕ) → slice_get ms k ≡ Some m → items_width ms ≤ w → integers_width m.type ≤ w
item_wide [] k m w h l = cc
item_wide (x ∷ ms) zero m w h l = let s : x ≡ m = cc in subst (λ (z : PlainFlatItem). integers_width z.type ≤ w) s (omega (arith, l))
item_wide (x ∷ ms) (suc k) m w h l = item_wide ms k m w h (omega (arith, l))

pub body_type : (t : List Instance) (width : ℕ) → Model t width → (j : ℕ) (e : Tree) → IsBody t j e → HasType (typing (types_in true t j) in_body e).type
body_type t width model j e b = has_type (types_in true t j) in_body e [] (λ q i f. model.typed j q (b.placed.paths q i) f) b.placed.words b.placed.checks

content_typed : (t : List Instance) (width : ℕ) → Model t width → (c : Content) → IsGood t c → HasType (content_type t c)
content_typed t width model (variable kind d) g = g
content_typed t width model (definition j e) g = body_type t width model j e g
content_typed t width model (actual j e) g = body_type t width model j e g

-- an item's type and what holds of it
pub record Typed (t : List Instance) (width k : ℕ) (m : Origin) : Type 0 where
  pub good : IsGood t m.content
  pub type : ExprType
  pub has : content_type t m.content ≡ Some type
  pub same : (flat_item_of t m).type ≡ type
  pub wide : integers_width type ≤ width

pub item_typed : (t : List Instance) (width : ℕ) → Model t width → (k : ℕ) (m : Origin) → slice_get (origins_of t) k ≡ Some m → Typed t width k m
item_typed t width model k m h =
    let g = all_there (OriginIsGood t) (origins_of t) k m model.good h in
    let u = some_of (content_type t m.content) (content_typed t width model m.content g) in
    record {
      good = g;
      type = u.0;
      has = u.1;
      same = ap type_or_truth u.1;
      wide = subst (λ z. integers_width z ≤ width) (ap type_or_truth u.1) (item_wide (flat_of t).items k (flat_item_of t m) width (item_there t k m h) model.items_wide);
    }

-- the formulas of an item's body
pub item_forms : (t : List Instance) (Q : Form → Type 0) → AllByRecursion Q (forms_of t) → (k : ℕ) (m : Origin) → slice_get (origins_of t) k ≡ Some m → HasForms t Q k m
item_forms t Q a k m h = let s : zero + k ≡ k = omega arith in subst (λ n. HasForms t Q n m) s (all_at (HasForms t Q) (origins_of t) 0 k m (body_forms_have t Q a) h)

pub item_width : (t : List Instance) (width : ℕ) → Model t width → (k : ℕ) (m : Origin) → slice_get (origins_of t) k ≡ Some m → HasForms t (λ f. tree_width f.body ≤ width) k m
item_width t width model k m h = item_forms t (λ f. tree_width f.body ≤ width) (forms_within (forms_of t) width model.forms_wide) k m h

-- ---- what paths become

-- an item's number is that of an item, and a symbol's that of its place
abbrev pub IsPlaced : List Instance → Leaf → Type 0
IsPlaced t (of_item k) = k < length (flat_of t).items
IsPlaced t (of_symbol s) = (y : List ℕ) × (slice_get (symbols_of t) s ≡ Some y) × (place_of (symbols_of t) y ≡ Some s)
IsPlaced t of_nothing = Unit {0}

pub found_origin : (t : List Instance) (m : Found) (k : ℕ) → position (is_item t m) (origins_of t) ≡ Some k → (o : Origin) × (slice_get (origins_of t) k ≡ Some o) × (is_item t m o ≡ true)
found_origin t m k h = by (origins_of t) k h
  where
    by : (ms : List Origin) (n : ℕ) → position (is_item t m) ms ≡ Some n → (o : Origin) × (slice_get ms n ≡ Some o) × (is_item t m o ≡ true)
    by [] n e = cc
    by (o ∷ ms) n e = let p = position-Some (is_item t m) (o ∷ ms) n o e in (get_or (o ∷ ms) n o, slice_get-get_or (o ∷ ms) n o p.0, p.1)

pub item_placed : (t : List Instance) (m : Found) (o : Option ℕ) → position (is_item t m) (origins_of t) ≡ o → IsPlaced t (item_leaf o)
item_placed t m None h = tt
item_placed t m (Some k) h = let p = found_origin t m k h in origin_within t k p.0 p.1

pub symbol_placed : (t : List Instance) (x : List ℕ) (o : Option ℕ) → position (bytes_eq x) (symbols_of t) ≡ o → IsPlaced t (symbol_leaf o)
symbol_placed t x None h = tt
symbol_placed t x (Some s) h =
    let p = position-Some (bytes_eq x) (symbols_of t) s [] h in
    let y = get_or (symbols_of t) s [] in
    (y, slice_get-get_or (symbols_of t) s [] p.0, subst (λ z. place_of (symbols_of t) z ≡ Some s) ((bytes_eq-Decides x y).0 p.1) h)

pub leaf_placed : (t : List Instance) (m : Found) → IsPlaced t (leaf_found t m)
leaf_placed t (variable_at x kind d) = item_placed t (variable_at x kind d) _ refl
leaf_placed t (body_at i x j e) = item_placed t (body_at i x j e) _ refl
leaf_placed t (symbol_of x) = symbol_placed t x _ refl
leaf_placed t (instance_at i) = tt
leaf_placed t cyclic = tt
leaf_placed t none = tt

-- values of variables that have the data of a row, whose symbols are the model's
pub record IsCoded (t : List Instance) (width : ℕ) (place : ℕ → ℕ) (row : Row) (env : Values) : Type 0 where
  pub known : (k : ℕ) → k < length (flat_of t).items → IsKnown (symbols_of t) (row k)
  pub coded : (k : ℕ) → k < length (flat_of t).items → env (place k) ≡ datum_of width (symbols_of t) (row k)

leaf_stands : (t : List Instance) (width : ℕ) (place : ℕ → ℕ) (row : Row) (env : Values) → IsCoded t width place row env → (l : Leaf) → IsPlaced t l
    → LeafIsRepresented width (symbols_of t) place env l (leaf_value (symbol_value (symbols_of t)) row l)
leaf_stands t width place row env r (of_item k) p = (r.coded k p, r.known k p)
leaf_stands t width place row env r (of_symbol s) p =
    let e : symbol_value (symbols_of t) s ≡ Symbol p.0 = ap symbol_or_none p.1 in
    subst (λ v. LeafIsRepresented width (symbols_of t) place env (of_symbol s) v) (sym e) (ap (λ n. datum.Constant 0 n) (sym (ap number_or_zero p.2)), (s, p.2))
leaf_stands t width place row env r of_nothing p = (refl, tt)

pub found_stands : (t : List Instance) (width : ℕ) (place : ℕ → ℕ) (row : Row) (env : Values) → IsCoded t width place row env → (m : Found)
    → LeafIsRepresented width (symbols_of t) place env (leaf_found t m) (leaf_value (symbol_value (symbols_of t)) row (leaf_found t m))
found_stands t width place row env r m = leaf_stands t width place row env r (leaf_found t m) (leaf_placed t m)
