-- In the row of a state of the declared types each variable's value is of the kind of its type, and so is an assignment's target.
use Rattle.std.proofs.Common.{◌≡◌, ℕ, zero, suc, ◌<◌, ◌≤◌, Bool, true, false, ℤ, List, [], ◌∷◌, length, Option, Some, None, option_map, refl, sym, ap, ◌∙◌, subst, arith}
use Rattle.std.specs.Prelude.{slice_get, bytes_eq}
use Rattle.std.proofs.lemmas.Option.{slice_get-map}
use Rattle.smv_text.specs.declared.tree.Path.{Path}
use Rattle.smv_text.specs.declared.tree.VarKind.{VarKind}
use Rattle.smv_text.specs.declared.tree.When.{When}
use Rattle.smv_meaning.specs.declared.value.Value.{Value}
use Rattle.smv_meaning.specs.declared.value.Value.TheVariants.{Truth, Integer, Symbol, Bits}
use Rattle.smv_meaning.specs.Values.{Valuation, is_of_type}
use Rattle.smv_meaning.specs.Instances.{Instance}
use Rattle.smv_meaning.specs.Names.{Found, variable_at, body_at, instance_at, symbol_of, cyclic, none, found_in, dotted_at}
use Rattle.smv_meaning.specs.Types.{ExprType, truth_type, integer_type, symbol_type, word_type}
use Rattle.smv_meaning.specs.Checks.{passes, variable_type}
use Rattle.smv_meaning.specs.Phases.{over_instances, type_checks, is_assignable}
use Rattle.smv_meaning.specs.Settled.{Acyclic, types_in, values_in}
use Rattle.smv_meaning.specs.Typed.{LiesIn, Lies}
use Rattle.smv_meaning.specs.laws.Booleans.{absurd_bool}
use Rattle.smv_laws.proofs.FoundLaws.{of_type_lies}
use Rattle.smv_laws.proofs.ValueLaws.{paths_lie_law}
use Rattle.smv_items.specs.FlatItems.{of_item, Content, variable, definition, actual, Origin, is_variable_as, item_leaf, leaf_found, path_of, origins_of, symbols_of, content_type, type_or_truth, PlainFlatItem, flat_item_of}
use Rattle.smv_flat.specs.FlatForms.{number_or_first, flat_of}
use Rattle.smv_flat.specs.FlatTruth.{Row}
use Rattle.smv_flat_laws.proofs.FlatFound.{variable_at_item, Home, home_found, both}
use Rattle.smv_flat_laws.proofs.FlatRows.{HasContent, row_leaf, row_reads, row_values, has_items, item_there}
use Rattle.smv_flat.specs.FlatWidth.{Holds, integers_width, items_width}
use Rattle.moxi_terms.specs.Operators.{nothing}
use Rattle.moxi_terms.specs.Value.{Calls, Values}
use Rattle.smv_script.specs.Codes.{datum_of}
use Rattle.smv_script.specs.Terms.{Coding}
use Rattle.smv_script_laws.specs.Kinds.{IsKnown, IsOfKind}
use Rattle.smv_script_laws.specs.TermLaws.{HasRow}
use Rattle.smv_script_laws.proofs.Parts.{known_kind}
use Rattle.smv_script_laws.proofs.Rows.{kind_same}
use Rattle.smv_script_laws.proofs.Forms.{some_type, Target}
use Rattle.smv_script_laws.proofs.Variables.{Fits, origins_fit}

-- ---- items

pub index_below : {X : Type 0} (xs : List X) (k : ℕ) (x : X) → slice_get xs k ≡ Some x → k < length xs
index_below [] k x h = cc
index_below (y ∷ xs) zero x h = omega arith
index_below (y ∷ xs) (suc k) x h = let r : k < length xs = index_below xs k x h in omega (arith, r)

pub item_width : (xs : List PlainFlatItem) (k : ℕ) (x : PlainFlatItem) → slice_get xs k ≡ Some x → integers_width x.type ≤ items_width xs
item_width [] k x h = cc
item_width (y ∷ xs) zero x h =
    let s : y ≡ x = cc in
    subst (λ (z : PlainFlatItem). integers_width z.type ≤ items_width (y ∷ xs)) s (omega arith)
item_width (y ∷ xs) (suc k) x h = let r : integers_width x.type ≤ items_width xs = item_width xs k x h in omega (arith, r)

-- an item is that of an origin
pub origin_there : (t : List Instance) (k : ℕ) (m : PlainFlatItem) → slice_get (flat_of t).items k ≡ Some m → (o : Origin) × (slice_get (origins_of t) k ≡ Some o) × (flat_item_of t o ≡ m)
origin_there t k m h = by (slice_get (origins_of t) k) refl (sym (slice_get-map (flat_item_of t) (origins_of t) k) ∙ h)
  where
    by : (x : Option Origin) → slice_get (origins_of t) k ≡ x → option_map (flat_item_of t) x ≡ Some m → (o : Origin) × (slice_get (origins_of t) k ≡ Some o) × (flat_item_of t o ≡ m)
    by None e g = cc
    by (Some o) e g = let s : flat_item_of t o ≡ m = cc in (o, e, s)

-- ---- variables

abbrev pub is_variable : Content → Bool
is_variable (variable kind d) = true
is_variable (definition j e) = false
is_variable (actual j e) = false

content_kind : (t : List Instance) (width : ℕ) (state label : Valuation) (read : ℕ → Path → Value) (v : Value) (x : List ℕ) (c : Content) → is_variable c ≡ true → Fits state label x c
    → HasContent t state label read v x c → integers_width (type_or_truth (content_type t c)) ≤ width → IsKnown (symbols_of t) v → IsOfKind width (symbols_of t) (type_or_truth (content_type t c)) v
content_kind t width state label read v x (variable kind d) e f h l k =
    let s = some_type (variable_type d) f.1 in
    let lies : LiesIn s.0 v = subst (λ o. Lies o v) s.1 (of_type_lies d v (ap (is_of_type d) h ∙ f.0)) in
    let same = ap type_or_truth s.1 in
    subst (λ u. IsOfKind width (symbols_of t) u v) (sym same) (known_kind width (symbols_of t) s.0 v (subst (λ u. integers_width u ≤ width) same l) lies k)
content_kind t width state label read v x (definition j c) e f h l k = absurd_bool e
content_kind t width state label read v x (actual j c) e f h l k = absurd_bool e

module _ (t : List Instance) (c : Coding) (types : passes (over_instances (type_checks (types_in true t)) 0 t) ≡ true) (wide : items_width (flat_of t).items ≤ c.width)
    (state label : Valuation) (row : Row) (env : Values) (r : HasRow t c state label row env) where
  pub variable_fits_at : (k : ℕ) (o : Origin) → slice_get (origins_of t) k ≡ Some o → Fits state label (path_of t o) o.content
  variable_fits_at k o h = origins_fit t state label r.of_state r.of_label types k o h

  pub variable_kind : (k : ℕ) (o : Origin) → slice_get (origins_of t) k ≡ Some o → is_variable o.content ≡ true → IsOfKind c.width (symbols_of t) (flat_item_of t o).type (row k)
  variable_kind k o h e =
      let there = item_there t k o h in
      let narrow : integers_width (flat_item_of t o).type ≤ items_width (flat_of t).items = item_width (flat_of t).items k (flat_item_of t o) there in
      content_kind t c.width state label (row_reads t row) (row k) (path_of t o) o.content e (variable_fits_at k o h) (has_items t state label row r.is_row k o h)
      (omega (arith, narrow, wide)) (r.known k (index_below (flat_of t).items k (flat_item_of t o) there))

-- ---- targets

variable_as : (kind : VarKind) (c : Content) → is_variable_as kind c ≡ true → is_variable c ≡ true
variable_as kind (variable k d) h = refl
variable_as kind (definition j e) h = absurd_bool h
variable_as kind (actual j e) h = absurd_bool h

record TargetItem (t : List Instance) (m : Found) : Type 0 where
  number : ℕ
  origin : Origin
  placed : leaf_found t m ≡ of_item number
  there : slice_get (origins_of t) number ≡ Some origin
  stated : is_variable origin.content ≡ true

target_item : (t : List Instance) (when : When) (m : Found) → Home t m → is_assignable when m ≡ true → TargetItem t m
target_item t when (variable_at y kind d) h a =
    let s = variable_at_item t h.0 h.1 kind d h.3 in
    record {
      number = s.k;
      origin = s.x;
      placed = ap (λ z. leaf_found t (variable_at z kind d)) h.2 ∙ ap item_leaf s.placed;
      there = s.there;
      stated = variable_as kind s.x.content (both (is_variable_as kind s.x.content) (bytes_eq (path_of t s.x) (dotted_at t h.0 h.1)) s.holds).0;
    }
target_item t when (body_at i x j e) h a = absurd_bool a
target_item t when (instance_at i) h a = absurd_bool a
target_item t when (symbol_of x) h a = absurd_bool a
target_item t when cyclic h a = absurd_bool a
target_item t when none h a = absurd_bool a

-- an integer is held whatever its interval is
held_integer : (width : ℕ) (symbols : List (List ℕ)) (v : ExprType) (z : ℤ) → IsOfKind width symbols v (Integer z) → Holds width z
held_integer width symbols truth_type z h = absurd h
held_integer width symbols (integer_type low high) z h = h
held_integer width symbols symbol_type z h = absurd h
held_integer width symbols (word_type n) z h = absurd h

other_kind : (width : ℕ) (symbols : List (List ℕ)) (u v : ExprType) (x : Value) → LiesIn u x → IsKnown symbols x → IsOfKind width symbols v x → IsOfKind width symbols u x
other_kind width symbols truth_type v (Truth b) l k h = tt
other_kind width symbols truth_type v x l k h = absurd l
other_kind width symbols (integer_type low high) v (Integer z) l k h = held_integer width symbols v z h
other_kind width symbols (integer_type low high) v x l k h = absurd l
other_kind width symbols symbol_type v (Symbol s) l k h = k
other_kind width symbols symbol_type v x l k h = absurd l
other_kind width symbols (word_type n) v (Bits w) l k h = l
other_kind width symbols (word_type n) v x l k h = absurd l

no_calls : Calls
no_calls n ds = nothing

module _ (t : List Instance) (c : Coding) (acyclic : Acyclic t) (some : 1 ≤ c.width) (types : passes (over_instances (type_checks (types_in true t)) 0 t) ≡ true)
    (wide : items_width (flat_of t).items ≤ c.width) (state label : Valuation) (row : Row) (env : Values) (r : HasRow t c state label row env) where
  pub target_stands : (i : ℕ) (when : When) (k : ℕ) (u : ExprType) → Target t i when k u
      → IsOfKind c.width (symbols_of t) u (row k) × (env (c.place k) ≡ datum_of c.width (symbols_of t) (row k))
  target_stands i when k u g =
      let a = target_item t when (found_in t i g.path) (home_found t i g.path) g.assigned in
      let n : k ≡ a.number = g.number ∙ ap number_or_first a.placed in
      let below = index_below (flat_of t).items a.number (flat_item_of t a.origin) (item_there t a.number a.origin a.there) in
      let value : row a.number ≡ values_in t state label i g.path = sym (ap (row_leaf t row) a.placed) ∙ row_values t acyclic state label row r.is_row i g.path in
      let named : LiesIn g.type (values_in t state label i g.path) = subst (λ o. Lies o (values_in t state label i g.path)) g.typed (paths_lie_law t true state label r.of_state (λ b. r.of_label) i g.path) in
      let own = variable_kind t c types wide state label row env r a.number a.origin a.there a.stated in
      let kind = other_kind c.width (symbols_of t) g.type (flat_item_of t a.origin).type (row a.number) (subst (λ v. LiesIn g.type v) (sym value) named) (r.known a.number below) own in
      let fits = kind_same c.width (symbols_of t) some no_calls env env [] g.type u (row a.number) g.same kind in
      subst (λ j. IsOfKind c.width (symbols_of t) u (row j) × (env (c.place j) ≡ datum_of c.width (symbols_of t) (row j))) (sym n) (fits, r.coded a.number below)
