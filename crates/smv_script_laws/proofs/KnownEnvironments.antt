-- The values of items in a state and a label of the declared types are of the kinds of the items' types.
use Rattle.std.proofs.Common.{◌≡◌, ℕ, zero, suc, ◌<◌, Bool, true, not, if◌then◌else◌, List, length, Some, bytes_eq, refl, sym, ap, ◌∙◌, subst}
use Rattle.std.specs.List.{slice_get}
use Rattle.std.proofs.lemmas.Slice.Eq.{bytes_eq-Decides}
use Rattle.smv_text.specs.declared.tree.Path.{Path}
use Rattle.smv_text.specs.declared.tree.VarKind.{VarKind}
use Rattle.smv_text.specs.declared.tree.VarKind.TheVariants as OfVarKind
use Rattle.smv_text.specs.Tree.{Tree, PlainDomain}
use Rattle.smv_meaning.specs.declared.value.Value.{Value}
use Rattle.smv_meaning.specs.Values.{Valuation, is_of_type}
use Rattle.smv_meaning.specs.Expressions.{denote}
use Rattle.smv_meaning.specs.Instances.{Instance}
use Rattle.smv_meaning.specs.Names.{Found, variable_at, body_at, instance_at, symbol_of, cyclic, none, found_in, steps_of, dotted_at}
use Rattle.smv_meaning.specs.Meaning.{is_input, value_found, reading}
use Rattle.smv_meaning.specs.Types.{ExprType}
use Rattle.smv_meaning.specs.Checks.{typing}
use Rattle.smv_meaning.specs.Naming.{in_body}
use Rattle.smv_meaning.specs.Runs.{values_fit}
use Rattle.smv_meaning.specs.Typed.{Lies}
use Rattle.smv_meaning.specs.Settled.{values_in, types_in}
use Rattle.smv_laws.proofs.TypeLaws.{fine}
use Rattle.smv_laws.proofs.FoundLaws.{there, of_type_lies}
use Rattle.smv_laws.proofs.ValueLaws.{paths_lie_law}
use Rattle.smv_items.specs.FlatItems.{Content, variable, definition, actual, Origin, origins_of, symbols_of, is_variable_as, path_of, content_type}
use Rattle.smv_flat.specs.FlatForms.{flat_of}
use Rattle.smv_flat_laws.specs.FlatLaws.{content_value, origin_value, row_of}
use Rattle.smv_flat_laws.proofs.FlatFound.{both, variable_at_item, Home, home_found, symbol_at}
use Rattle.smv_script_laws.specs.Kinds.{IsKnown, IsOfKind}
use Rattle.smv_script_laws.proofs.Known.{known_value}
use Rattle.smv_script_laws.proofs.Parts.{known_kind}
use Rattle.smv_accepted.proofs.Fitting.{content_fits, origin_fits, values_fit_so}
use Rattle.smv_script_laws.proofs.Symbols.{variable_known}
use Rattle.smv_script_laws.proofs.Models.{Model, item_typed, origin_at}
use Rattle.smv_script_laws.proofs.Steps.{Fit}

abbrev pub variable_value : Valuation → Valuation → List ℕ → VarKind → Value
variable_value state label x kind = if is_input kind then label x else state x

module _ (t : List Instance) (state label : Valuation) (fit : Fit t state label) where
  fits_at : (picked : VarKind → Bool) (values : Valuation) → values_fit picked t values ≡ true → (k : ℕ) (m : Origin) (x : Content) → slice_get (origins_of t) k ≡ Some m → m.content ≡ x
      → content_fits picked values (path_of t m) x ≡ true
  fits_at picked values f k m x h e =
      sym (ap (content_fits picked values (path_of t m)) e) ∙ there (origin_fits picked t values) (origins_of t) k m (values_fit_so picked t values ∙ f) h

  -- a variable has a value of its declared type
  pub variable_fits : (k : ℕ) (m : Origin) (kind : VarKind) (d : PlainDomain) → slice_get (origins_of t) k ≡ Some m → m.content ≡ variable kind d → is_of_type d (variable_value state label (path_of t m) kind) ≡ true
  variable_fits k m OfVarKind.State d h e = fits_at (λ v. not (is_input v)) state fit.of_state k m (variable OfVarKind.State d) h e
  variable_fits k m OfVarKind.Frozen d h e = fits_at (λ v. not (is_input v)) state fit.of_state k m (variable OfVarKind.Frozen d) h e
  variable_fits k m OfVarKind.Input d h e = fits_at is_input label fit.of_label k m (variable OfVarKind.Input d) h e

  -- ---- symbols

  same_variable : (x y : List ℕ) (kind v : VarKind) (d : PlainDomain) → is_variable_as kind (variable v d) ≡ true → y ≡ x → IsKnown (symbols_of t) (variable_value state label y v) → IsKnown (symbols_of t) (variable_value state label x kind)
  same_variable x y OfVarKind.State OfVarKind.State d h e s = subst (λ z. IsKnown (symbols_of t) (state z)) e s
  same_variable x y OfVarKind.State OfVarKind.Frozen d h e s = subst (λ z. IsKnown (symbols_of t) (state z)) e s
  same_variable x y OfVarKind.State OfVarKind.Input d h e s = cc
  same_variable x y OfVarKind.Frozen OfVarKind.State d h e s = subst (λ z. IsKnown (symbols_of t) (state z)) e s
  same_variable x y OfVarKind.Frozen OfVarKind.Frozen d h e s = subst (λ z. IsKnown (symbols_of t) (state z)) e s
  same_variable x y OfVarKind.Frozen OfVarKind.Input d h e s = cc
  same_variable x y OfVarKind.Input OfVarKind.State d h e s = cc
  same_variable x y OfVarKind.Input OfVarKind.Frozen d h e s = cc
  same_variable x y OfVarKind.Input OfVarKind.Input d h e s = subst (λ z. IsKnown (symbols_of t) (label z)) e s

  variable_there : (k : ℕ) (m : Origin) (x : List ℕ) (kind : VarKind) (c : Content) → slice_get (origins_of t) k ≡ Some m → m.content ≡ c → is_variable_as kind c ≡ true → path_of t m ≡ x → IsKnown (symbols_of t) (variable_value state label x kind)
  variable_there k m x kind (variable v d) h e s p =
      same_variable x (path_of t m) kind v d s p (variable_known t k m v d (variable_value state label (path_of t m) v) h e (variable_fits k m v d h e))
  variable_there k m x kind (definition j b) h e s p = cc
  variable_there k m x kind (actual j b) h e s p = cc

  known_found : (n : ℕ) → ((i : ℕ) (q : Path) → IsKnown (symbols_of t) (reading (found_in t) n state label i q)) → (m : Found) → Home t m → IsKnown (symbols_of t) (value_found (reading (found_in t) n state label) state label m)
  known_found n ih (variable_at y kind d) h =
      let a = variable_at_item t h.0 h.1 kind d h.3 in
      let b = both (is_variable_as kind a.x.content) (bytes_eq (path_of t a.x) (dotted_at t h.0 h.1)) a.holds in
      variable_there a.k a.x y kind a.x.content a.there refl b.0 ((bytes_eq-Decides (path_of t a.x) (dotted_at t h.0 h.1)).0 b.1 ∙ sym h.2)
  known_found n ih (body_at i x j e) h = known_value (symbols_of t) (reading (found_in t) n state label j) (reading (found_in t) n state label j) (λ q. ih j q) (λ q. ih j q) e
  known_found n ih (symbol_of x) h = let a = symbol_at t x h in (a.k, a.placed)
  known_found n ih (instance_at i) h = tt
  known_found n ih cyclic h = tt
  known_found n ih none h = tt

  known_reading : (n i : ℕ) (q : Path) → IsKnown (symbols_of t) (reading (found_in t) n state label i q)
  unfolding reading
  known_reading zero i q = tt
  known_reading (suc n) i q = known_found n (λ j r. known_reading n j r) (found_in t i q) (home_found t i q)

  pub known_path : (i : ℕ) (q : Path) → IsKnown (symbols_of t) (values_in t state label i q)
  known_path i q = known_reading (steps_of t) i q

  -- ---- kinds

  body_known : (j : ℕ) (e : Tree) → IsKnown (symbols_of t) (denote (values_in t state label j) (values_in t state label j) e).value
  body_known j e = known_value (symbols_of t) (values_in t state label j) (values_in t state label j) (known_path j) (known_path j) e

  body_lies : (j : ℕ) (e : Tree) → Lies (typing (types_in true t j) in_body e).type (denote (values_in t state label j) (values_in t state label j) e).value
  body_lies j e =
      let lies = λ (q : Path). paths_lie_law t true state label fit.of_state (λ z. fit.of_label) j q in
      (fine (types_in true t j) (values_in t state label j) (values_in t state label j) lies lies in_body e).valued refl

  content_known : (k : ℕ) (m : Origin) (x : Content) → slice_get (origins_of t) k ≡ Some m → m.content ≡ x → IsKnown (symbols_of t) (content_value t state label (path_of t m) x)
  content_known k m (variable kind d) h e = variable_known t k m kind d (variable_value state label (path_of t m) kind) h e (variable_fits k m kind d h e)
  content_known k m (definition j b) h e = body_known j b
  content_known k m (actual j b) h e = body_known j b

  content_lies : (k : ℕ) (m : Origin) (x : Content) → slice_get (origins_of t) k ≡ Some m → m.content ≡ x → Lies (content_type t x) (content_value t state label (path_of t m) x)
  content_lies k m (variable kind d) h e = of_type_lies d (variable_value state label (path_of t m) kind) (variable_fits k m kind d h e)
  content_lies k m (definition j b) h e = body_lies j b
  content_lies k m (actual j b) h e = body_lies j b

  pub row_known : (k : ℕ) → k < length (flat_of t).items → IsKnown (symbols_of t) (row_of t state label k)
  row_known k l =
      let o = origin_at t k l in
      subst (λ v. IsKnown (symbols_of t) v) (sym (ap (origin_value t state label) o.1)) (content_known k o.0 o.0.content o.1 refl)

  pub row_kind : (width : ℕ) → Model t width → (k : ℕ) (m : Origin) → slice_get (origins_of t) k ≡ Some m → (u : ExprType) → content_type t m.content ≡ Some u → IsOfKind width (symbols_of t) u (row_of t state label k)
  row_kind width model k m h u e =
      let y = item_typed t width model k m h in
      let s : y.type ≡ u = some_same y.type u (sym y.has ∙ e) in
      subst (λ v. IsOfKind width (symbols_of t) u v) (sym (ap (origin_value t state label) h))
      (subst (λ z. IsOfKind width (symbols_of t) z (content_value t state label (path_of t m) m.content)) s
      (known_kind width (symbols_of t) y.type (content_value t state label (path_of t m) m.content) y.wide
      (subst (λ o. Lies o (content_value t state label (path_of t m) m.content)) y.has (content_lies k m m.content h refl)) (content_known k m m.content h refl)))
    where
      some_same : (a b : ExprType) → Some a ≡ Some b → a ≡ b
      some_same a b g = cc
