-- The row of a state and a label has values of the script's variables.
use Rattle.std.proofs.Common.{◌≡◌, ℕ, zero, suc, ◌+◌, ◌≤◌, ◌<◌, Bool, true, false, ◌==◌, if◌then◌else◌, List, [], ◌∷◌, length, Some, refl, sym, ap, ◌∙◌, subst, arith}
use Rattle.std.specs.List.{slice_get}
use Rattle.std.proofs.lemmas.Bool.{eq-eqb, eqb-true}
use Rattle.std.proofs.lemmas.Option.{slice_get_within}
use Rattle.word_core.specs.declared.word.TheConstants.{WIDEST}
use Rattle.smv_meaning.specs.Values.{Valuation}
use Rattle.smv_meaning.specs.Instances.{Instance}
use Rattle.smv_items.specs.FlatItems.{symbols_of, PlainFlatItem, flat_item_of}
use Rattle.smv_flat.specs.FlatForms.{flat_of}
use Rattle.smv_flat.specs.FlatTruth.{Row}
use Rattle.smv_flat_laws.specs.FlatLaws.{row_of}
use Rattle.smv_flat_laws.proofs.FlatRows.{row_is_there_law, item_there}
use Rattle.moxi_terms.specs.declared.data.Sort.{Sort}
use Rattle.moxi_terms.specs.declared.term.Variable.{Variable}
use Rattle.moxi_terms.specs.Sorts.{IsOf}
use Rattle.moxi_terms.specs.Tree.{sorts_of}
use Rattle.moxi_scripts.specs.Script.{variables_in}
use Rattle.smv_script.specs.Codes.{datum_of, sort_of}
use Rattle.smv_script.specs.Script.{place_of_item, symbol_sort, system_of}
use Rattle.smv_script_laws.proofs.Places.{is_place_of_law, places_differ_law}
use Rattle.smv_script_laws.specs.Decoding.{datum_from}
use Rattle.smv_script_laws.specs.EnvironmentLaws.{environment_in, HasEnvironment}
use Rattle.smv_script_laws.proofs.Domains.{kind_sorted}
use Rattle.smv_script_laws.proofs.Models.{Model, item_typed, origin_at}
use Rattle.smv_script_laws.proofs.Steps.{Fit}
use Rattle.smv_script_laws.proofs.KnownEnvironments.{row_known, row_kind}

found_datum : (width : ℕ) (symbols : List (List ℕ)) (place : ℕ → ℕ) (row : Row) (total : ℕ) → ((k l : ℕ) → k < total → l < total → place k ≡ place l → k ≡ l) → (k : ℕ) (ms : List PlainFlatItem) (n : ℕ) → n < length ms → k + length ms ≤ total
    → datum_from width symbols place row (place (k + n)) k ms ≡ datum_of width symbols (row (k + n))
found_datum width symbols place row total differ k [] n h l = absurd (omega arith)
found_datum width symbols place row total differ k (m ∷ ms) zero h l =
    let s : k ≡ k + 0 = omega arith in
    ap (λ b. if b then datum_of width symbols (row k) else datum_from width symbols place row (place (k + 0)) (k + 1) ms) (eq-eqb (place k) (place (k + 0)) (ap place s)) ∙ ap (λ i. datum_of width symbols (row i)) s
found_datum width symbols place row total differ k (m ∷ ms) (suc n) h l =
    let s : (k + 1) + n ≡ k + suc n = omega arith in
    by (place k == place (k + suc n)) refl
    ∙ ap (λ i. datum_from width symbols place row (place i) (k + 1) ms) (sym s) ∙ found_datum width symbols place row total differ (k + 1) ms n (omega arith) (omega arith) ∙ ap (λ i. datum_of width symbols (row i)) s
  where
    by : (b : Bool) → (place k == place (k + suc n)) ≡ b
        → (if b then datum_of width symbols (row k) else datum_from width symbols place row (place (k + suc n)) (k + 1) ms) ≡ datum_from width symbols place row (place (k + suc n)) (k + 1) ms
    by true e = let same : k ≡ k + suc n = differ k (k + suc n) (omega arith) (omega arith) (eqb-true (place k) (place (k + suc n)) e) in absurd (omega arith)
    by false e = refl

-- a variable of the sort
variable_at : (vs : List Variable) (v : ℕ) (s : Sort) → slice_get (sorts_of vs) v ≡ Some s → (x : Variable) × (slice_get vs v ≡ Some x) × (x.sort ≡ s)
variable_at [] v s h = cc
variable_at (x ∷ vs) zero s h = (x, refl, some_same x.sort s h)
  where
    some_same : (a b : Sort) → Some a ≡ Some b → a ≡ b
    some_same a b g = cc
variable_at (x ∷ vs) (suc v) s h = variable_at vs v s h

pub same_item : (x y : PlainFlatItem) → Some x ≡ Some y → x ≡ y
same_item x y e = cc

module _ (t : List Instance) (width : ℕ) (model : Model t width) (most : width ≤ WIDEST) (state label : Valuation) (fit : Fit t state label) where
  abbrev row : Row
  row = row_of t state label

  coded_at : (k : ℕ) → k < length (flat_of t).items → environment_in t width state label (place_of_item (flat_of t).items k) ≡ datum_of width (symbols_of t) (row k)
  coded_at k h = let s : 0 + k ≡ k = omega arith in subst (λ i. environment_in t width state label (place_of_item (flat_of t).items i) ≡ datum_of width (symbols_of t) (row i)) s (found_datum width (symbols_of t) (place_of_item (flat_of t).items) row (length (flat_of t).items) (λ k l. places_differ_law (flat_of t).items k l) 0 (flat_of t).items k h (omega arith))

  suits_at : (v : ℕ) (s : Sort) → slice_get (sorts_of (variables_in (system_of (flat_of t) width))) v ≡ Some s → IsOf (symbol_sort (symbols_of t)) s (environment_in t width state label v)
  suits_at v s h =
      let x = variable_at (variables_in (system_of (flat_of t) width)) v s h in
      let p = is_place_of_law width (flat_of t).items v x.0 x.1 in
      let l : p.number < length (flat_of t).items = slice_get_within (flat_of t).items p.number p.item p.there in
      let o = origin_at t p.number l in
      let y = item_typed t width model p.number o.0 o.1 in
      let i : p.item ≡ flat_item_of t o.0 = same_item p.item (flat_item_of t o.0) (sym p.there ∙ item_there t p.number o.0 o.1) in
      let sort : sort_of width y.type ≡ s = ap (sort_of width) (sym y.same) ∙ ap (λ (m : PlainFlatItem). sort_of width m.type) (sym i) ∙ sym (ap (λ (z : Variable). z.sort) p.same) ∙ x.2 in
      subst (λ z. IsOf (symbol_sort (symbols_of t)) z (environment_in t width state label v)) sort
      (subst (λ d. IsOf (symbol_sort (symbols_of t)) (sort_of width y.type) d) (sym (coded_at p.number l) ∙ ap (environment_in t width state label) p.place)
      (kind_sorted width (symbols_of t) model.some most y.type (row p.number) (row_kind t state label fit width model p.number o.0 o.1 y.type y.has)))

  pub row_has_environment : HasEnvironment t width state label
  row_has_environment = (
    record {
      of_state = fit.of_state;
      of_label = fit.of_label;
      is_row = row_is_there_law t model.acyclic state label;
      known = λ k h. row_known t state label fit k h;
      coded = λ k h. coded_at k h;
    },
    record { each = λ v s h. suits_at v s h },
  )
