-- Values of a script's variables of their sorts, under which what is asked of each item holds, are those of the row of the state and the
-- label for which they stand.
use Rattle.std.proofs.Common.{◌≡◌, ℕ, suc, ◌+◌, Bool, true, false, not, List, [], ◌∷◌, map, Option, Some, None, option_map, refl, sym, ap, ◌∙◌, subst, arith}
use Rattle.std.specs.List.{slice_get, list_all, AllByRecursion}
use Rattle.std.proofs.lemmas.Option.{slice_get-map}
use Rattle.name_maps.specs.Names.{are_fresh}
use Rattle.smv_text.specs.declared.tree.VarKind.{VarKind}
use Rattle.smv_text.specs.declared.tree.VarKind.TheVariants as OfVarKind
use Rattle.smv_text.specs.Tree.{Tree, PlainDomain}
use Rattle.smv_meaning.specs.declared.value.Value.{Value}
use Rattle.smv_meaning.specs.Values.{Valuation, no_value, is_of_type, given}
use Rattle.smv_meaning.specs.Instances.{Instance}
use Rattle.smv_meaning.specs.Meaning.{is_input}
use Rattle.smv_meaning.specs.laws.Booleans.{two_true}
use Rattle.smv_items.specs.FlatItems.{Content, variable, definition, actual, Origin, origins_of, symbols_of, path_of, kind_of, content_type, type_or_truth, domain_members, content_members, PlainFlatItem, flat_item_of}
use Rattle.smv_flat.specs.FlatForms.{forms_of, flat_of}
use Rattle.smv_flat.specs.FlatTruth.{Row}
use Rattle.smv_flat_laws.specs.FlatLaws.{content_value, row_of}
use Rattle.smv_flat_laws.proofs.FlatFound.{body_in, pair}
use Rattle.smv_flat_laws.proofs.FlatRows.{row_is_there_law, item_there}
use Rattle.smv_accepted.specs.NameLaws.{item_names}
use Rattle.smv_accepted.proofs.Symbols.{symbols_are_distinct_law}
use Rattle.moxi_terms.specs.declared.data.Datum.{Datum}
use Rattle.moxi_terms.specs.declared.term.Variable.{Variable}
use Rattle.moxi_terms.specs.Tree.{variable as moxi_variable}
use Rattle.moxi_terms.specs.Value.{Calls, Values}
use Rattle.moxi_scripts.specs.Script.{variables_in}
use Rattle.moxi_scripts.specs.Behaviour.{Holds}
use Rattle.smv_script.specs.Codes.{datum_of, value_of, sort_of}
use Rattle.smv_script.specs.Script.{place_of_item, coding_of, invar_item, body_parts, domain_parts, system_of}
use Rattle.smv_script_laws.proofs.Places.{has_place_law}
use Rattle.smv_script_laws.specs.Kinds.{IsKnown, IsOfKind}
use Rattle.smv_script_laws.specs.TermLaws.{IsDatum}
use Rattle.smv_script_laws.proofs.ValueLaws.{data_round_trip_law}
use Rattle.smv_script_laws.specs.Decoding.{is_of_state, is_of_label, decoded_state, decoded_label}
use Rattle.smv_script_laws.specs.EnvironmentLaws.{SuitsSystem, ItemsHold, IsEnvironmentOfDecoded}
use Rattle.smv_accepted.proofs.Fitting.{content_fits, origin_fits, values_fit_so}
use Rattle.smv_script_laws.proofs.Symbols.{symbol_there}
use Rattle.smv_script_laws.proofs.Givens.{given_item}
use Rattle.smv_script_laws.proofs.Domains.{datum_is, datum_kind, kind_known, of_domain}
use Rattle.smv_script_laws.proofs.Models.{Model, item_typed, origin_at, IsCoded}
use Rattle.smv_script_laws.proofs.Steps.{Fit}
use Rattle.smv_script_laws.proofs.Same.{Meets, row_same}

all_of_each : {X : Type 0} (p : X → Bool) (xs : List X) → ((k : ℕ) (x : X) → slice_get xs k ≡ Some x → p x ≡ true) → list_all p xs ≡ true
all_of_each p [] h = refl
all_of_each p (x ∷ xs) h = two_true (p x) (list_all p xs) (h 0 x refl) (all_of_each p xs (λ k y e. h (suc k) y e))

names_same : (t : List Instance) (ms : List Origin) → map (λ (m : PlainFlatItem). m.name) (map (flat_item_of t) ms) ≡ map (path_of t) ms
names_same t [] = refl
names_same t (m ∷ ms) = ap (λ xs. path_of t m ∷ xs) (names_same t ms)

-- the value for which that of an item's variable stands
abbrev decoded_value : List (List ℕ) → Option PlainFlatItem → Datum → Value
decoded_value symbols None d = no_value
decoded_value symbols (Some m) d = value_of symbols m.type d

module _ (t : List Instance) (width : ℕ) (model : Model t width) (fresh : are_fresh [] (item_names t) ≡ true) (calls : Calls) (env : Values)
    (suits : SuitsSystem (flat_of t) width env) (holds : ItemsHold (flat_of t) width calls env) where
  abbrev place : ℕ → ℕ
  place = place_of_item (flat_of t).items

  abbrev row : Row
  row k = decoded_value (symbols_of t) (slice_get (flat_of t).items k) (env (place k))

  abbrev state : Valuation
  state = given (decoded_state (flat_of t) (coding_of (flat_of t) width) env)

  abbrev label : Valuation
  label = given (decoded_label (flat_of t) (coding_of (flat_of t) width) env)

  row_at : (k : ℕ) (m : Origin) → slice_get (origins_of t) k ≡ Some m → row k ≡ value_of (symbols_of t) (flat_item_of t m).type (env (place k))
  row_at k m h = ap (λ o. decoded_value (symbols_of t) o (env (place k))) (item_there t k m h)

  is_datum : (k : ℕ) (m : Origin) → slice_get (origins_of t) k ≡ Some m → IsDatum width (symbols_of t) (flat_item_of t m).type (env (place k))
  is_datum k m h =
      datum_is width (symbols_of t) (flat_item_of t m).type (env (place k))
      (suits.each (place k) (sort_of width (flat_item_of t m).type)
      (slice_get-map (λ (v : Variable). v.sort) (variables_in (system_of (flat_of t) width)) (place k)
      ∙ ap (option_map (λ (v : Variable). v.sort)) (has_place_law width (flat_of t).items k (flat_item_of t m) (item_there t k m h))))

  kind_at : (k : ℕ) (m : Origin) → slice_get (origins_of t) k ≡ Some m → IsOfKind width (symbols_of t) (flat_item_of t m).type (row k)
  kind_at k m h =
      subst (λ v. IsOfKind width (symbols_of t) (flat_item_of t m).type v) (sym (row_at k m h))
      (datum_kind width (symbols_of t) model.some (symbols_are_distinct_law t) (flat_item_of t m).type (env (place k)) (is_datum k m h))

  coded_at : (k : ℕ) (m : Origin) → slice_get (origins_of t) k ≡ Some m → env (place k) ≡ datum_of width (symbols_of t) (row k)
  coded_at k m h =
      sym (ap (datum_of width (symbols_of t)) (row_at k m h)
      ∙ data_round_trip_law width (symbols_of t) model.some (symbols_are_distinct_law t) (flat_item_of t m).type (env (place k)) (is_datum k m h))

  codes : IsCoded t width place row env
  codes = record {
    known = λ k l. let o = origin_at t k l in kind_known width (symbols_of t) (flat_item_of t o.0).type (row k) (kind_at k o.0 o.1);
    coded = λ k l. let o = origin_at t k l in coded_at k o.0 o.1;
  }

  -- ---- states and labels

  names_fresh : are_fresh [] (map (λ (m : PlainFlatItem). m.name) (flat_of t).items) ≡ true
  names_fresh = ap (are_fresh []) (names_same t (origins_of t)) ∙ fresh

  state_gives : (k : ℕ) (m : Origin) → slice_get (origins_of t) k ≡ Some m → is_of_state (kind_of m.content) ≡ true → row k ≡ state (path_of t m)
  state_gives k m h e =
      let s : 0 + k ≡ k = omega arith in
      row_at k m h ∙ ap (λ n. value_of (symbols_of t) (flat_item_of t m).type (env (place n))) (sym s)
      ∙ sym (given_item (symbols_of t) place is_of_state env [] 0 (flat_of t).items names_fresh k (flat_item_of t m) (item_there t k m h) e)

  label_gives : (k : ℕ) (m : Origin) → slice_get (origins_of t) k ≡ Some m → is_of_label (kind_of m.content) ≡ true → row k ≡ label (path_of t m)
  label_gives k m h e =
      let s : 0 + k ≡ k = omega arith in
      row_at k m h ∙ ap (λ n. value_of (symbols_of t) (flat_item_of t m).type (env (place n))) (sym s)
      ∙ sym (given_item (symbols_of t) place is_of_label env [] 0 (flat_of t).items names_fresh k (flat_item_of t m) (item_there t k m h) e)

  variable_gives : (k : ℕ) (m : Origin) (kind : VarKind) (d : PlainDomain) → slice_get (origins_of t) k ≡ Some m → m.content ≡ variable kind d → row k ≡ content_value t state label (path_of t m) (variable kind d)
  variable_gives k m OfVarKind.State d h e = state_gives k m h (ap (λ c. is_of_state (kind_of c)) e)
  variable_gives k m OfVarKind.Frozen d h e = state_gives k m h (ap (λ c. is_of_state (kind_of c)) e)
  variable_gives k m OfVarKind.Input d h e = label_gives k m h (ap (λ c. is_of_label (kind_of c)) e)

  -- ---- values of declared types

  asked : (k : ℕ) (m : Origin) → slice_get (origins_of t) k ≡ Some m → AllByRecursion (Holds calls env env) (invar_item (flat_of t) (coding_of (flat_of t) width) k (flat_item_of t m) (kind_of m.content))
  asked k m h = holds k (flat_item_of t m) (item_there t k m h)

  domain_asked : (k : ℕ) (m : Origin) (kind : VarKind) (d : PlainDomain) → m.content ≡ variable kind d → AllByRecursion (Holds calls env env) (invar_item (flat_of t) (coding_of (flat_of t) width) k (flat_item_of t m) (kind_of m.content))
      → AllByRecursion (Holds calls env env) (domain_parts width (symbols_of t) (moxi_variable (place k) false) (flat_item_of t m).type (domain_members d))
  domain_asked k m kind d e a = by kind (subst (λ c. AllByRecursion (Holds calls env env) (invar_item (flat_of t) (coding_of (flat_of t) width) k (record { name = path_of t m; instance = m.instance; kind = kind_of c; type = (flat_item_of t m).type; members = content_members c }) (kind_of c))) e a)
    where
      by : (v : VarKind) → AllByRecursion (Holds calls env env) (invar_item (flat_of t) (coding_of (flat_of t) width) k (record { name = path_of t m; instance = m.instance; kind = kind_of (variable v d); type = (flat_item_of t m).type; members = domain_members d }) (kind_of (variable v d)))
          → AllByRecursion (Holds calls env env) (domain_parts width (symbols_of t) (moxi_variable (place k) false) (flat_item_of t m).type (domain_members d))
      by OfVarKind.State h = h
      by OfVarKind.Frozen h = h
      by OfVarKind.Input h = h

  value_fits : (k : ℕ) (m : Origin) (kind : VarKind) (d : PlainDomain) → slice_get (origins_of t) k ≡ Some m → m.content ≡ variable kind d → is_of_type d (row k) ≡ true
  value_fits k m kind d h e =
      let y = item_typed t width model k m h in
      of_domain width (symbols_of t) model.some calls env env (moxi_variable (place k) false) d y.type (row k) (sym (ap (content_type t) e) ∙ y.has) y.wide
      (λ s i. symbol_there t k m kind d s h e i) (subst (λ u. IsOfKind width (symbols_of t) u (row k)) y.same (kind_at k m h)) (coded_at k m h)
      (subst (λ u. AllByRecursion (Holds calls env env) (domain_parts width (symbols_of t) (moxi_variable (place k) false) u (domain_members d))) y.same (domain_asked k m kind d e (asked k m h)))

  of_state_fits : (k : ℕ) (m : Origin) (c : Content) → slice_get (origins_of t) k ≡ Some m → m.content ≡ c → content_fits (λ v. not (is_input v)) state (path_of t m) c ≡ true
  of_state_fits k m (variable OfVarKind.State d) h e = sym (ap (is_of_type d) (variable_gives k m OfVarKind.State d h e)) ∙ value_fits k m OfVarKind.State d h e
  of_state_fits k m (variable OfVarKind.Frozen d) h e = sym (ap (is_of_type d) (variable_gives k m OfVarKind.Frozen d h e)) ∙ value_fits k m OfVarKind.Frozen d h e
  of_state_fits k m (variable OfVarKind.Input d) h e = refl
  of_state_fits k m (definition j b) h e = refl
  of_state_fits k m (actual j b) h e = refl

  of_label_fits : (k : ℕ) (m : Origin) (c : Content) → slice_get (origins_of t) k ≡ Some m → m.content ≡ c → content_fits is_input label (path_of t m) c ≡ true
  of_label_fits k m (variable OfVarKind.Input d) h e = sym (ap (is_of_type d) (variable_gives k m OfVarKind.Input d h e)) ∙ value_fits k m OfVarKind.Input d h e
  of_label_fits k m (variable OfVarKind.State d) h e = refl
  of_label_fits k m (variable OfVarKind.Frozen d) h e = refl
  of_label_fits k m (definition j b) h e = refl
  of_label_fits k m (actual j b) h e = refl

  both_fit : Fit t state label
  both_fit = record {
    of_state = sym (values_fit_so (λ v. not (is_input v)) t state) ∙ all_of_each (origin_fits (λ v. not (is_input v)) t state) (origins_of t) (λ k m h. of_state_fits k m m.content h refl);
    of_label = sym (values_fit_so is_input t label) ∙ all_of_each (origin_fits is_input t label) (origins_of t) (λ k m h. of_label_fits k m m.content h refl);
  }

  -- ---- bodies

  body_asked : (k : ℕ) (m : Origin) (j : ℕ) (e : Tree) (c : Content) → m.content ≡ c → body_in c ≡ Some (pair j e) → AllByRecursion (Holds calls env env) (invar_item (flat_of t) (coding_of (flat_of t) width) k (flat_item_of t m) (kind_of m.content))
      → AllByRecursion (Holds calls env env) (body_parts (coding_of (flat_of t) width) k (forms_of t))
  body_asked k m j e (variable kind d) s h a = cc
  body_asked k m j e (definition i b) s h a = subst (λ x. AllByRecursion (Holds calls env env) (invar_item (flat_of t) (coding_of (flat_of t) width) k (flat_item_of t m) (kind_of x))) s a
  body_asked k m j e (actual i b) s h a = subst (λ x. AllByRecursion (Holds calls env env) (invar_item (flat_of t) (coding_of (flat_of t) width) k (flat_item_of t m) (kind_of x))) s a

  meets : Meets t (coding_of (flat_of t) width) calls row env state label
  meets = record {
    model = model;
    codes = codes;
    fit = both_fit;
    variables = λ k m kind d h e. variable_gives k m kind d h e;
    decoded = λ k m u h e. row_at k m h ∙ ap (λ z. value_of (symbols_of t) z (env (place k))) (ap type_or_truth e);
    equations = λ k m j e h b. body_asked k m j e m.content refl b (asked k m h);
  }

  same_at : (k : ℕ) (m : Origin) → slice_get (origins_of t) k ≡ Some m → row k ≡ row_of t state label k
  same_at k m h = row_same t (coding_of (flat_of t) width) calls row env state label meets k m h

  pub environment_is_row : IsEnvironmentOfDecoded t width env
  environment_is_row = record {
    of_state = both_fit.of_state;
    of_label = both_fit.of_label;
    is_row = row_is_there_law t model.acyclic state label;
    known = λ k l. let o = origin_at t k l in subst (λ v. IsKnown (symbols_of t) v) (same_at k o.0 o.1) (codes.known k l);
    coded = λ k l. let o = origin_at t k l in subst (λ v. env (place k) ≡ datum_of width (symbols_of t) v) (same_at k o.0 o.1) (codes.coded k l);
  }
