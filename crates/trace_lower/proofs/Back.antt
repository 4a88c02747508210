-- The run comes back from the witness that states it.
use Rattle.std.proofs.Common.{◌≡◌, ℕ, zero, suc, ◌+◌, ◌-◌, ◌<◌, ◌≤◌, ◌&&◌, Bool, true, false, cond, if◌then◌else◌, List, [], ◌∷◌, ◌++◌, length, map, Some, bytes_eq, refl, sym, ap, ◌∙◌, subst, arith, inl, inr}
use Rattle.std.specs.Prelude.{IsTrue, slice_get, slice_index_or}
use Rattle.std.specs.List.{AllByRecursion, filter, list_all}
use Rattle.std.proofs.Math.ListN.{get_or-eq_default}
use Rattle.std.proofs.Math.Nat.{eq-or-lt_of_le}
use Rattle.std.proofs.lemmas.List.{length-map}
use Rattle.std.proofs.lemmas.Option.{slice_get_within}
use Rattle.std.proofs.lemmas.Slice.Eq.{bytes_eq-Decides}
use Rattle.name_maps.specs.Names.{place_of}
use Rattle.smv_text.specs.Tree.{PlainSource}
use Rattle.smv_meaning.specs.declared.value.Given.{Given}
use Rattle.smv_meaning.specs.declared.value.Run.{Run}
use Rattle.smv_meaning.specs.Values.{Valuation, given}
use Rattle.smv_meaning.specs.Instances.{instances_of}
use Rattle.smv_meaning.specs.Phases.{IsAccepted}
use Rattle.smv_meaning.specs.Runs.{IsRun, label_fits, no_values}
use Rattle.smv_meaning.specs.Verdicts.{YesIsRun}
use Rattle.smv_meaning.specs.laws.Booleans.{absurd_bool, both_true}
use Rattle.smv_laws.proofs.SafeExpressions.{accepted_is_checked_law}
use Rattle.smv_accepted.specs.NameLaws.{item_names}
use Rattle.smv_accepted.proofs.ItemNames.{names_are_distinct_law}
use Rattle.smv_accepted.proofs.Literals.{words_fit_law}
use Rattle.smv_items.specs.declared.items.ItemKind.{ItemKind}
use Rattle.smv_items.specs.declared.items.ItemKind.TheVariants as kind
use Rattle.smv_items.specs.FlatItems.{Origin, PlainFlatItem, flat_item_of, origins_of, path_of}
use Rattle.smv_flat.specs.FlatForms.{PlainFlat, flat_smv}
use Rattle.smv_flat.specs.FlatTruth.{GivesItem, GivesKind}
use Rattle.smv_flat_laws.specs.FlatLaws.{row_of}
use Rattle.smv_flat_laws.proofs.FlatRows.{item_there}
use Rattle.smv_flat.specs.FlatWidth.{width_of}
use Rattle.smv_width.proofs.SpelledWidths.{instances_operators}
use Rattle.smv_flatten.specs.FlatModel.{IsRead}
use Rattle.smv_numbered.specs.Stated.{IsStatedRun, can_be_stated, names_each}
use Rattle.smv_numbered.specs.Values.{picks}
use Rattle.smv_numbered.specs.declared.heading.Heading.{Heading}
use Rattle.smv_numbered.specs.declared.heading.Heading.TheVariants as heading
use Rattle.smv_script.specs.Codes.{datum_of, value_of}
use Rattle.smv_script.specs.Terms.{Coding}
use Rattle.smv_script.specs.Script.{check_of, coding_of, place_of_item}
use Rattle.smv_script_laws.specs.Decoding.{decoded_from, decoded_item, decoded_label, decoded_state, decoded_steps, is_of_label, is_of_state}
use Rattle.smv_script_laws.specs.EnvironmentLaws.{environment_in}
use Rattle.smv_script_laws.specs.RunLaws.{decoded_run}
use Rattle.smv_script_laws.specs.TermLaws.{ValuesRoundTrip}
use Rattle.smv_script_laws.proofs.KnownEnvironments.{row_kind}
use Rattle.smv_script_laws.proofs.Listed.{Steps, steps_of_run}
use Rattle.smv_script_laws.proofs.Models.{Model, item_typed, model, origin_at}
use Rattle.smv_script_laws.proofs.Places.{has_place_law}
use Rattle.smv_script_laws.proofs.Steps.{Fit as FitsRow}
use Rattle.moxi_terms.specs.declared.data.Datum.{Datum}
use Rattle.moxi_terms.specs.Value.{Values, at}
use Rattle.moxi_scripts.specs.Valid.{check_variables}
use Rattle.moxi_lift.proofs.Upto.{at_upto}
use Rattle.moxi_lower.specs.Laws.{LoweredAreLifted}
use Rattle.witness_lift.specs.LineLaws.{model_system}
use Rattle.trace_lower.specs.Laws.{LoweredRoundTrip, declared_by}
use Rattle.trace_lower.specs.Lowered.{steps_in}
use Rattle.trace_lower.proofs.Accepted.{last_fits, run_steps, variables_long}
use Rattle.trace_lower.proofs.Meeting.{HasFits, environment_there}
use Rattle.trace_lower.proofs.Steps.{last_label, nth, step_at, step_of, steps_long}
use Rattle.smv_script_laws.proofs.RowEnvironments.{same_item}
use Rattle.moxi_scripts.specs.Behaviour.{trace_of}

-- ---- names that differ

abbrev Differ : List PlainFlatItem → Type 0
Differ [] = Unit {0}
Differ (m ∷ ms) = AllByRecursion (λ (x : PlainFlatItem). bytes_eq m.name x.name ≡ false) ms × Differ ms

module _ (names : List (List ℕ)) where
  apart : (x y : List ℕ) (i j : ℕ) → i < j → place_of names x ≡ Some i → place_of names y ≡ Some j → bytes_eq x y ≡ false
  apart x y i j l p q = by (bytes_eq x y) refl
    where
      by : (b : Bool) → bytes_eq x y ≡ b → b ≡ false
      by true e =
          let s : Some i ≡ Some j = sym p ∙ ap (place_of names) ((bytes_eq-Decides x y).0 e) ∙ q in
          let n : i ≡ j = cc in
          absurd (omega (arith, l, n))
      by false e = refl

  others_differ : (m : PlainFlatItem) (i : ℕ) → place_of names m.name ≡ Some i → (ms : List PlainFlatItem) (j : ℕ) → i < j → ((n : ℕ) (x : PlainFlatItem) → slice_get ms n ≡ Some x → place_of names x.name ≡ Some (j + n))
      → AllByRecursion (λ (x : PlainFlatItem). bytes_eq m.name x.name ≡ false) ms
  others_differ m i p [] j l h = tt
  others_differ m i p (x ∷ ms) j l h = (
    apart m.name x.name i (j + 0) (omega (arith, l)) p (h 0 x refl),
    others_differ m i p ms (j + 1) (omega (arith, l)) (λ n y g. h (suc n) y g ∙ ap Some (omega arith)),
  )

  all_differ : (ms : List PlainFlatItem) (j : ℕ) → ((n : ℕ) (x : PlainFlatItem) → slice_get ms n ≡ Some x → place_of names x.name ≡ Some (j + n)) → Differ ms
  all_differ [] j h = tt
  all_differ (m ∷ ms) j h = (
    others_differ m (j + 0) (h 0 m refl) ms (j + 1) (omega arith) (λ n y g. h (suc n) y g ∙ ap Some (omega arith)),
    all_differ ms (j + 1) (λ n y g. h (suc n) y g ∙ ap Some (omega arith)),
  )

filter_all : (P : PlainFlatItem → Type 0) (p : PlainFlatItem → Bool) (ms : List PlainFlatItem) → AllByRecursion P ms → AllByRecursion P (filter p ms)
filter_all P p [] a = tt
filter_all P p (m ∷ ms) a = by (p m) (filter_all P p ms a.1)
  where
    by : (b : Bool) → AllByRecursion P (filter p ms) → AllByRecursion P (cond b (m ∷ filter p ms) (filter p ms))
    by true h = (a.0, h)
    by false h = h

filter_differ : (p : PlainFlatItem → Bool) (ms : List PlainFlatItem) → Differ ms → Differ (filter p ms)
filter_differ p [] d = tt
filter_differ p (m ∷ ms) d = by (p m) (filter_differ p ms d.1)
  where
    by : (b : Bool) → Differ (filter p ms) → Differ (cond b (m ∷ filter p ms) (filter p ms))
    by true h = (filter_all (λ (x : PlainFlatItem). bytes_eq m.name x.name ≡ false) p ms d.0, h)
    by false h = h

-- ---- what is given for each name

abbrev given_each : Valuation → List PlainFlatItem → List Given
given_each values [] = []
given_each values (m ∷ ms) = record { name = m.name; value = values m.name } ∷ given_each values ms

-- what is in front gives nothing for names that differ from its own
passed_over : (g : Given) (gs : List Given) (ms : List PlainFlatItem) → AllByRecursion (λ (x : PlainFlatItem). bytes_eq g.name x.name ≡ false) ms → given_each (given (g ∷ gs)) ms ≡ given_each (given gs) ms
passed_over g gs [] a = refl
passed_over g gs (m ∷ ms) a =
    ap (λ b. let x : Given = record { name = m.name; value = if b then g.value else given gs m.name } in x ∷ given_each (given (g ∷ gs)) ms) a.0
    ∙ ap (λ (xs : List Given). let x : Given = record { name = m.name; value = given gs m.name } in x ∷ xs) (passed_over g gs ms a.1)

-- a list that names each gives it back
named_back : (symbols : List (List ℕ)) (ms : List PlainFlatItem) (gs : List Given) → names_each symbols ms gs ≡ true → Differ ms → given_each (given gs) ms ≡ gs
named_back symbols [] [] h d = refl
named_back symbols [] (g ∷ gs) h d = absurd_bool h
named_back symbols (m ∷ ms) [] h d = absurd_bool h
named_back symbols (m ∷ ms) (g ∷ gs) h d =
    let front = both_true (bytes_eq m.name g.name && can_be_stated symbols m.type g.value) (names_each symbols ms gs) h in
    let own = both_true (bytes_eq m.name g.name) (can_be_stated symbols m.type g.value) front.0 in
    let name : m.name ≡ g.name = (bytes_eq-Decides m.name g.name).0 own.0 in
    let others : AllByRecursion (λ (x : PlainFlatItem). bytes_eq g.name x.name ≡ false) ms = subst (λ y. AllByRecursion (λ (x : PlainFlatItem). bytes_eq y x.name ≡ false) ms) name d.0 in
    ap (λ y. let x : Given = record { name = y; value = given (g ∷ gs) y } in x ∷ given_each (given (g ∷ gs)) ms) name
    ∙ ap (λ b. let x : Given = record { name = g.name; value = if b then g.value else given gs g.name } in x ∷ given_each (given (g ∷ gs)) ms) ((bytes_eq-Decides g.name g.name).1 refl)
    ∙ ap (λ (xs : List Given). g ∷ xs) (passed_over g gs ms others ∙ named_back symbols ms gs front.1 d.1)

-- ---- decoded values

module _ (symbols : List (List ℕ)) (place : ℕ → ℕ) (picked : ItemKind → Bool) (env : Values) (values : Valuation) where
  decoded_each : (k : ℕ) (ms : List PlainFlatItem) → ((n : ℕ) (m : PlainFlatItem) → slice_get ms n ≡ Some m → picked m.kind ≡ true → value_of symbols m.type (env (place (k + n))) ≡ values m.name)
      → decoded_from symbols place picked env k ms ≡ given_each values (filter (λ m. picked m.kind) ms)
  decoded_each k [] h = refl
  decoded_each k (m ∷ ms) h = by (picked m.kind) refl (decoded_each (k + 1) ms (λ n x g p. ap (λ i. value_of symbols x.type (env (place i))) (omega arith) ∙ h (suc n) x g p))
    where
      by : (b : Bool) → picked m.kind ≡ b → decoded_from symbols place picked env (k + 1) ms ≡ given_each values (filter (λ m. picked m.kind) ms)
          → (if b then decoded_item symbols place env k m ∷ [] else []) ++ decoded_from symbols place picked env (k + 1) ms ≡ given_each values (cond b (m ∷ filter (λ m. picked m.kind) ms) (filter (λ m. picked m.kind) ms))
      by true e rest =
          let here : value_of symbols m.type (env (place k)) ≡ values m.name = ap (λ i. value_of symbols m.type (env (place i))) (omega arith) ∙ h 0 m refl e in
          ap (λ v. let x : Given = record { name = m.name; value = v } in x ∷ decoded_from symbols place picked env (k + 1) ms) here
          ∙ ap (λ (xs : List Given). let x : Given = record { name = m.name; value = values m.name } in x ∷ xs) rest
      by false e rest = rest

filter_same : (p q : PlainFlatItem → Bool) → ((m : PlainFlatItem) → p m ≡ q m) → (ms : List PlainFlatItem) → filter p ms ≡ filter q ms
filter_same p q h [] = refl
filter_same p q h (m ∷ ms) = ap (λ b. cond b (m ∷ filter p ms) (filter p ms)) (h m) ∙ ap (λ xs. cond (q m) (m ∷ xs) xs) (filter_same p q h ms)

-- which variables a state and a label name
states_picked : (k : ItemKind) → is_of_state k ≡ picks heading.State k
states_picked kind.State = refl
states_picked kind.Frozen = refl
states_picked kind.Input = refl
states_picked kind.Define = refl
states_picked kind.Actual = refl

labels_picked : (k : ItemKind) → is_of_label k ≡ picks heading.Input k
labels_picked kind.State = refl
labels_picked kind.Frozen = refl
labels_picked kind.Input = refl
labels_picked kind.Define = refl
labels_picked kind.Actual = refl

-- ---- a model

module _ (back : ValuesRoundTrip) (source : PlainSource) (needed : ℕ) (read : IsRead source) (accepted : IsAccepted source needed) where
  abbrev width : ℕ
  width = width_of (flat_smv source)

  abbrev flat : PlainFlat
  flat = flat_smv source

  is_model : Model (instances_of source) width
  is_model =
      model (instances_of source) (accepted_is_checked_law source needed accepted) (words_fit_law source read.end read.text read.tokens read.lexed read.spelled) (instances_operators source read.tokens read.spelled.0)

  name_at : (ms : List Origin) (n : ℕ) (m : PlainFlatItem) → slice_get (map (flat_item_of (instances_of source)) ms) n ≡ Some m → slice_get (map (path_of (instances_of source)) ms) n ≡ Some m.name
  name_at [] n m h = cc
  name_at (o ∷ ms) zero m h = ap (λ (x : PlainFlatItem). Some x.name) (same_item (flat_item_of (instances_of source) o) m h)
  name_at (o ∷ ms) (suc n) m h = name_at ms n m h

  items_differ : Differ flat.items
  items_differ = all_differ (item_names (instances_of source)) flat.items 0
      (λ n x h. names_are_distinct_law source read.end read.text read.tokens read.lexed read.spelled needed accepted n x.name (name_at (origins_of (instances_of source)) n x h) ∙ ap Some (omega arith))

  module _ (state label : Valuation) (fits : HasFits source state label) where
    abbrev env : Values
    env = environment_in (instances_of source) width state label

    -- the value of each item comes back
    value_back : (k : ℕ) (m : PlainFlatItem) → slice_get flat.items k ≡ Some m → value_of flat.symbols m.type (env (place_of_item flat.items k)) ≡ row_of (instances_of source) state label k
    value_back k m h =
        let t = instances_of source in
        let l : k < length flat.items = slice_get_within flat.items k m h in
        let o = origin_at t k l in
        let y = item_typed t width is_model k o.0 o.1 in
        let i : m ≡ flat_item_of t o.0 = same_item m (flat_item_of t o.0) (sym h ∙ item_there t k o.0 o.1) in
        let type : m.type ≡ y.type = ap (λ (x : PlainFlatItem). x.type) i ∙ y.same in
        let fit : FitsRow t state label = record { of_state = fits.of_state; of_label = fits.of_label } in
        ap (value_of flat.symbols m.type) ((environment_there source needed read accepted state label fits).0.coded k l)
        ∙ ap (λ u. value_of flat.symbols u (datum_of width flat.symbols (row_of t state label k))) type
        ∙ back width flat.symbols is_model.some y.type (row_of t state label k) (row_kind t state label fit width is_model k o.0 o.1 y.type y.has)

    gives : (k : ℕ) (m : PlainFlatItem) → slice_get flat.items k ≡ Some m → GivesItem state label (row_of (instances_of source) state label k) (Some m)
    gives k m h = subst (GivesItem state label (row_of (instances_of source) state label k)) h ((environment_there source needed read accepted state label fits).0.is_row.variables k)

    state_gives : (k : ℕ) (m : PlainFlatItem) → slice_get flat.items k ≡ Some m → is_of_state m.kind ≡ true → row_of (instances_of source) state label k ≡ state m.name
    state_gives k m h p = by m.kind p (gives k m h)
      where
        by : (u : ItemKind) → is_of_state u ≡ true → GivesKind state label m.name (row_of (instances_of source) state label k) u → row_of (instances_of source) state label k ≡ state m.name
        by kind.State q g = g
        by kind.Frozen q g = g
        by kind.Input q g = absurd_bool q
        by kind.Define q g = absurd_bool q
        by kind.Actual q g = absurd_bool q

    label_gives : (k : ℕ) (m : PlainFlatItem) → slice_get flat.items k ≡ Some m → is_of_label m.kind ≡ true → row_of (instances_of source) state label k ≡ label m.name
    label_gives k m h p = by m.kind p (gives k m h)
      where
        by : (u : ItemKind) → is_of_label u ≡ true → GivesKind state label m.name (row_of (instances_of source) state label k) u → row_of (instances_of source) state label k ≡ label m.name
        by kind.State q g = absurd_bool q
        by kind.Frozen q g = absurd_bool q
        by kind.Input q g = g
        by kind.Define q g = absurd_bool q
        by kind.Actual q g = absurd_bool q

    -- what a step has at the place of an item
    at_place : (k : ℕ) (m : PlainFlatItem) → slice_get flat.items k ≡ Some m → at (step_of source state label) (place_of_item flat.items k) ≡ env (place_of_item flat.items k)
    at_place k m h =
        let vs = check_variables (check_of flat width) in
        let inside : place_of_item flat.items k < length vs = slice_get_within vs (place_of_item flat.items k) _ (has_place_law width flat.items k m h) in
        at_upto env (length (model_system source).variables) (place_of_item flat.items k) (omega (arith, inside, variables_long source needed read accepted))

    decoded_back : (picked : ItemKind → Bool) (values : Valuation) → ((k : ℕ) (m : PlainFlatItem) → slice_get flat.items k ≡ Some m → picked m.kind ≡ true → row_of (instances_of source) state label k ≡ values m.name)
        → decoded_from flat.symbols (place_of_item flat.items) picked (at (step_of source state label)) 0 flat.items ≡ given_each values (filter (λ m. picked m.kind) flat.items)
    decoded_back picked values h =
        decoded_each flat.symbols (place_of_item flat.items) picked (at (step_of source state label)) values 0 flat.items
        (λ n m g p.
        ap (λ i. value_of flat.symbols m.type (at (step_of source state label) (place_of_item flat.items i))) (omega arith)
        ∙ ap (value_of flat.symbols m.type) (at_place n m g) ∙ value_back n m g ∙ h n m g p)

  abbrev coding : Coding
  coding = coding_of flat width

  state_back : (s : List Given) (l : Valuation) → HasFits source (given s) l → names_each flat.symbols (filter (λ m. picks heading.State m.kind) flat.items) s ≡ true → decoded_state flat coding (at (step_of source (given s) l)) ≡ s
  state_back s l fits h =
      decoded_back (given s) l fits is_of_state (given s) (state_gives (given s) l fits)
      ∙ ap (given_each (given s)) (filter_same (λ m. is_of_state m.kind) (λ m. picks heading.State m.kind) (λ m. states_picked m.kind) flat.items)
      ∙ named_back flat.symbols (filter (λ m. picks heading.State m.kind) flat.items) s h (filter_differ (λ m. picks heading.State m.kind) flat.items items_differ)

  label_back : (s : Valuation) (l : List Given) → HasFits source s (given l) → names_each flat.symbols (filter (λ m. picks heading.Input m.kind) flat.items) l ≡ true → decoded_label flat coding (at (step_of source s (given l))) ≡ l
  label_back s l fits h =
      decoded_back s (given l) fits is_of_label (given l) (label_gives s (given l) fits)
      ∙ ap (given_each (given l)) (filter_same (λ m. is_of_label m.kind) (λ m. picks heading.Input m.kind) (λ m. labels_picked m.kind) flat.items)
      ∙ named_back flat.symbols (filter (λ m. picks heading.Input m.kind) flat.items) l h (filter_differ (λ m. picks heading.Input m.kind) flat.items items_differ)

  -- ---- along a run

  abbrev Stated : Heading → List Given → Type 0
  Stated h gs = names_each flat.symbols (filter (λ m. picks h m.kind) flat.items) gs ≡ true

  steps_back : (decoded : Values → List Given) (envs : List (List Datum)) (start : ℕ) (xs : List (List Given)) → ((i : ℕ) → i < length xs → decoded (trace_of envs (start + i)) ≡ slice_index_or xs i []) → decoded_steps decoded (trace_of envs) start (length xs) ≡ xs
  steps_back decoded envs start [] h = refl
  steps_back decoded envs start (x ∷ xs) h =
      ap (λ y. y ∷ decoded_steps decoded (trace_of envs) (start + 1) (length xs)) (ap (λ n. decoded (trace_of envs n)) (omega arith) ∙ h 0 (omega arith))
      ∙ ap (λ ys. x ∷ ys) (steps_back decoded envs (start + 1) xs (λ i l. ap (λ n. decoded (trace_of envs n)) (omega arith) ∙ h (suc i) (omega (arith, l))))

  nth_given : (xs : List (List Given)) (d : Valuation) (i : ℕ) → i < length xs → nth (map given xs) d i ≡ given (slice_index_or xs i [])
  nth_given [] d i h = absurd (omega (arith, h))
  nth_given (x ∷ xs) d zero h = refl
  nth_given (x ∷ xs) d (suc i) h = nth_given xs d i (omega (arith, h))

  each_stated : (p : List Given → Bool) (xs : List (List Given)) (i : ℕ) → i < length xs → IsTrue (list_all p xs) → p (slice_index_or xs i []) ≡ true
  each_stated p [] i h a = absurd (omega (arith, h))
  each_stated p (x ∷ xs) zero h a = (both_true (p x) (list_all p xs) a).0
  each_stated p (x ∷ xs) (suc i) h a = each_stated p xs i (omega (arith, h)) (both_true (p x) (list_all p xs) a).1

  module _ (run : Run) (is : IsRun source (map given run.states) (map given run.labels)) (stated : IsStatedRun (declared_by source) run) where
    abbrev k : ℕ
    k = length run.labels

    abbrev states : ℕ → Valuation
    states = nth (map given run.states) no_values

    abbrev labels : ℕ → Valuation
    labels = nth (map given run.labels) (last_label source)

    abbrev envs : List (List Datum)
    envs = steps_in source run.states run.labels

    steps : Steps (instances_of source) states labels k
    steps = steps_of_run (instances_of source) (map given run.states) (map given run.labels) no_values (last_label source) k (length-map run.labels given) is

    behind : (i : ℕ) → k ≤ i → labels i ≡ last_label source
    behind i h = let count : length (map given run.labels) ≡ k = length-map run.labels given in get_or-eq_default (map given run.labels) (last_label source) (omega (arith, h, count))

    labels_fit : (i : ℕ) → i ≤ k → label_fits (instances_of source) (labels i) ≡ true
    labels_fit i l = elim (eq-or-lt_of_le l) [
      | inl e ↦ subst (λ v. label_fits (instances_of source) v ≡ true) (sym (behind i (omega (arith, e)))) (last_fits source needed read accepted)
      | inr b ↦ steps.inputs i b
    ]

    fits_at : (i : ℕ) → i ≤ k → HasFits source (states i) (labels i)
    fits_at i l = record { of_state = steps.values i l; of_label = labels_fit i l }

    step_there : (i : ℕ) → i ≤ k → slice_index_or envs i [] ≡ step_of source (states i) (labels i)
    step_there i l = step_at source no_values run.states run.labels i (omega (arith, l, stated.labels))

    state_there : (i : ℕ) → i < length run.states → decoded_state flat coding (trace_of envs (0 + i)) ≡ slice_index_or run.states i []
    state_there i h =
        let l : i ≤ k = omega (arith, h, stated.labels) in
        let s = slice_index_or run.states i [] in
        let is_given : states i ≡ given s = nth_given run.states no_values i h in
        ap (λ n. decoded_state flat coding (trace_of envs n)) (omega arith) ∙ ap (λ e. decoded_state flat coding (at e)) (step_there i l)
        ∙ ap (λ v. decoded_state flat coding (at (step_of source v (labels i)))) is_given
        ∙ state_back s (labels i) (subst (λ v. HasFits source v (labels i)) is_given (fits_at i l)) (each_stated _ run.states i h stated.states)

    label_there : (i : ℕ) → i < length run.labels → decoded_label flat coding (trace_of envs (0 + i)) ≡ slice_index_or run.labels i []
    label_there i h =
        let l : i ≤ k = omega (arith, h) in
        let x = slice_index_or run.labels i [] in
        let is_given : labels i ≡ given x = nth_given run.labels (last_label source) i h in
        ap (λ n. decoded_label flat coding (trace_of envs n)) (omega arith) ∙ ap (λ e. decoded_label flat coding (at e)) (step_there i l)
        ∙ ap (λ v. decoded_label flat coding (at (step_of source (states i) v))) is_given
        ∙ label_back (states i) x (subst (λ v. HasFits source (states i) v) is_given (fits_at i l)) (each_stated _ run.labels i h stated.inputs)

    run_back : decoded_run source (trace_of envs) (length envs - 1) ≡ run
    run_back =
        let count : length envs ≡ length run.states = steps_long source run.states run.labels in
        let one : (length envs - 1) + 1 ≡ length run.states = omega (arith, count, stated.some) in
        let two : length envs - 1 ≡ length run.labels = omega (arith, count, stated.labels) in
        let a : decoded_steps (decoded_state flat coding) (trace_of envs) 0 ((length envs - 1) + 1) ≡ run.states =
        ap (decoded_steps (decoded_state flat coding) (trace_of envs) 0) one ∙ steps_back (decoded_state flat coding) envs 0 run.states state_there in
        let b : decoded_steps (decoded_label flat coding) (trace_of envs) 0 (length envs - 1) ≡ run.labels =
        ap (decoded_steps (decoded_label flat coding) (trace_of envs) 0) two ∙ steps_back (decoded_label flat coding) envs 0 run.labels label_there in
        ap (λ (xs : List (List Given)). let r : Run = record { states = xs; labels = decoded_steps (decoded_label flat coding) (trace_of envs) 0 (length envs - 1) } in r) a
        ∙ ap (λ (xs : List (List Given)). let r : Run = record { states = run.states; labels = xs } in r) b

-- ---- the law

pub lowered_round_trip_law : YesIsRun → LoweredAreLifted → ValuesRoundTrip → LoweredRoundTrip
lowered_round_trip_law runs lifts back source needed read accepted j run stated verdict =
    let is = ((runs source j (map given run.states) (map given run.labels)).0 verdict).0 in
    let envs = steps_in source run.states run.labels in
    ap (λ (es : List (List Datum)). decoded_run source (trace_of es) (length es - 1)) (lifts (model_system source) j envs (run_steps source needed read accepted run is))
    ∙ run_back back source needed read accepted run is stated
