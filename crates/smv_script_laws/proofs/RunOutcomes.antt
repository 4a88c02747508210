-- Traces that meet a query are runs that break its invariant, and each such run has one.
use Rattle.std.proofs.Common.{◌≡◌, ℕ, suc, ◌+◌, ◌<◌, ◌≤◌, Bool, true, false, if◌then◌else◌, nat_lt, List, [], ◌∷◌, map, length, refl, sym, ap, ◌∙◌, subst, arith}
use Rattle.std.specs.List.{Any, slice_index_or}
use Rattle.std.proofs.lemmas.Bool.{ltb-true, lt-ltb}
use Rattle.text_core.specs.declared.place.Place.{Place}
use Rattle.smv_text.specs.declared.token.Token.{Token}
use Rattle.smv_text.specs.declared.tree.When.TheVariants.{Always, Following}
use Rattle.smv_text.specs.Tree.{PlainSource}
use Rattle.smv_text.specs.Lexing.{Lexes}
use Rattle.smv_text.specs.Sources.{SpellsSource}
use Rattle.smv_meaning.specs.Values.{Valuation, given}
use Rattle.smv_meaning.specs.Instances.{instances_of}
use Rattle.smv_meaning.specs.Phases.{IsAccepted}
use Rattle.smv_meaning.specs.Runs.{no_values, label_fits, step_holds, is_broken}
use Rattle.smv_laws.proofs.SafeExpressions.{accepted_is_checked_law}
use Rattle.smv_flat.specs.FlatForms.{flat_smv}
use Rattle.smv_accepted.proofs.ItemNames.{names_are_distinct_law}
use Rattle.smv_accepted.proofs.Literals.{words_fit_law}
use Rattle.smv_flat.specs.FlatWidth.{width_of}
use Rattle.smv_width.proofs.SpelledWidths.{instances_operators}
use Rattle.moxi_terms.specs.Value.{Calls, Values}
use Rattle.moxi_scripts.specs.Script.{calls_in, query_of}
use Rattle.moxi_scripts.specs.Behaviour.{Behaves, behaves, no_subsystems, FormulasHold, Holds, Trace}
use Rattle.moxi_scripts.specs.Meeting.{MeetsQuery, Reaches}
use Rattle.smv_script.specs.Terms.{Coding}
use Rattle.smv_script.specs.Script.{coding_of, formula_of, system_of}
use Rattle.smv_script_laws.specs.Decoding.{decoded_state, decoded_label, decoded_steps}
use Rattle.smv_script_laws.specs.EnvironmentLaws.{SuitsSystem, IsEnvironmentOf, environment_in}
use Rattle.smv_script_laws.proofs.Environments.{environments_are_rows_law, rows_have_environments_law}
use Rattle.smv_script_laws.proofs.Models.{model}
use Rattle.smv_script_laws.proofs.Splits.{formula_splits_law}
use Rattle.smv_script_laws.specs.RunLaws.{BreaksAt, TracesAreRuns, RunsHaveTraces}
use Rattle.smv_script.specs.Script.{script_for}
use Rattle.smv_script_laws.proofs.Defaults.{default_label, default_label_fits}
use Rattle.smv_script_laws.proofs.Listed.{listed, decoded_listed, listed_length, Steps, listed_run, listed_breaks, at, steps_of_run, last_breaks, run_long}
use Rattle.smv_script_laws.proofs.RunMeanings.{StateMeans, state_means, step_means}

-- what holds of some number of a list of one holds of that one
only_one : (P : ℕ → Type 0) (j : ℕ) → Any P (j ∷ []) → P j
only_one P j (n, x, l, e, p) =
    let z : n ≡ 0 = omega (arith, l) in
    let same : j ≡ x = sym (ap (λ i. slice_index_or (j ∷ []) i x) z) ∙ e in
    subst P (sym same) p

module _ (source : PlainSource) (end : Place) (text : List ℕ) (xs : List Token) (lexed : Lexes text xs) (spelled : SpellsSource source end xs) (needed : ℕ) (accepted : IsAccepted source needed) where
  abbrev width : ℕ
  width = width_of (flat_smv source)

  abbrev coding : Coding
  coding = coding_of (flat_smv source) width

  abbrev calls : Calls
  calls = calls_in (script_for source).scope

  wide : width ≤ width
  wide = omega arith

  abbrev RowOf : Valuation → Valuation → Values → Type 0
  RowOf state label env = IsEnvironmentOf (instances_of source) width state label env

  state_of : (state label : Valuation) (env : Values) → RowOf state label env → StateMeans source coding calls state env
  state_of state label env r = state_means source end text xs lexed spelled needed accepted coding wide calls state label env r

  -- ---- from traces to runs

  -- a trace whose steps behave
  record Behaving (trace : Trace) (k : ℕ) : Type 0 where
    suits : (i : ℕ) → i < k + 1 → SuitsSystem (flat_smv source) width (trace i)
    formulas : FormulasHold calls (k + 1) (system_of (flat_smv source) width) trace

  behaving : (trace : Trace) (k : ℕ) → Behaves (script_for source).scope.enumerations calls (script_for source).systems (k + 1) 0 trace → Behaving trace k
  behaving trace k (behaves below suits formulas inner) = record { suits = suits; formulas = formulas }

  module _ (trace : Trace) (k : ℕ) (b : Behaving trace k) where
    abbrev state_at : ℕ → Valuation
    state_at i = given (decoded_state (flat_smv source) coding (trace i))

    abbrev label_at : ℕ → Valuation
    label_at i = given (decoded_label (flat_smv source) coding (trace i))

    row_at : (i : ℕ) → i ≤ k → RowOf (state_at i) (label_at i) (trace i)
    row_at i l =
        environments_are_rows_law source end text xs lexed spelled needed accepted calls (trace i) (b.suits i (omega (arith, l)))
        ((formula_splits_law (flat_smv source) coding Always calls (trace i) (trace i)).0 (b.formulas.inv i (omega (arith, l)))).items

    steps_hold : Steps (instances_of source) state_at label_at k
    steps_hold = record {
      values = λ i l. (row_at i l).of_state;
      inputs = λ i l. (row_at i (omega (arith, l))).of_label;
      starts = (state_of (state_at 0) (label_at 0) (trace 0) (row_at 0 (omega arith))).init.0 b.formulas.init;
      stays = λ i l. (state_of (state_at i) (label_at i) (trace i) (row_at i l)).invar.0 (b.formulas.inv i (omega (arith, l)));
      steps = λ i l. (step_means source end text xs lexed spelled needed accepted coding wide calls (state_at i) (label_at i) (state_at (i + 1)) (label_at (i + 1)) (trace i) (trace (i + 1))
          (row_at i (omega (arith, l))) (row_at (i + 1) (omega (arith, l)))).0 (b.formulas.trans i (omega (arith, l)));
    }

    broken_at : (j : ℕ) → Reaches (script_for source) trace k j → BreaksAt source j k (listed state_at 0 (suc k)) (listed label_at 0 k)
    broken_at j h = record {
      counted = listed_length label_at 0 k;
      run = listed_run (instances_of source) state_at label_at k steps_hold;
      breaks = listed_breaks source j state_at 0 k (let s : k ≡ 0 + k = omega arith in
          subst (λ i. is_broken (instances_of source) j (state_at i) ≡ true) s
          (((state_of (state_at k) (label_at k) (trace k) (row_at k (omega arith))).broken j).0 h));
    }

  -- ---- from runs to traces

  default_fits : label_fits (instances_of source) (default_label (instances_of source)) ≡ true
  default_fits =
      default_label_fits (instances_of source) width
      (model (instances_of source) (accepted_is_checked_law source needed accepted) (words_fit_law source end text xs lexed spelled) (instances_operators source xs spelled.0))
      (names_are_distinct_law source end text xs lexed spelled needed accepted)

  module _ (k : ℕ) (states labels : ℕ → Valuation) (s : Steps (instances_of source) states labels k) where
    -- the label of a step; behind the last transition any one
    abbrev next_label : ℕ → Valuation
    next_label i = if nat_lt i k then labels i else default_label (instances_of source)

    next_fits : (i : ℕ) → label_fits (instances_of source) (next_label i) ≡ true
    next_fits i = by (nat_lt i k) refl
      where
        by : (b : Bool) → nat_lt i k ≡ b → label_fits (instances_of source) (if b then labels i else default_label (instances_of source)) ≡ true
        by true e = s.inputs i (ltb-true i k e)
        by false e = default_fits

    abbrev trace_of : Trace
    trace_of i = environment_in (instances_of source) width (states i) (next_label i)

    has_environment : (i : ℕ) → i ≤ k → RowOf (states i) (next_label i) (trace_of i) × SuitsSystem (flat_smv source) width (trace_of i)
    has_environment i l = rows_have_environments_law source end text xs lexed spelled needed accepted (states i) (next_label i) (s.values i l) (next_fits i)

    step_at : (i : ℕ) → i < k → Holds calls (trace_of i) (trace_of (i + 1)) (formula_of (flat_smv source) coding Following)
    step_at i l =
        (step_means source end text xs lexed spelled needed accepted coding wide calls (states i) (next_label i) (states (i + 1)) (next_label (i + 1)) (trace_of i) (trace_of (i + 1))
        (has_environment i (omega (arith, l))).0 (has_environment (i + 1) (omega (arith, l))).0).1
        (subst (λ b. step_holds (instances_of source) (states i) (if b then labels i else default_label (instances_of source)) (states (i + 1)) ≡ true) (sym (lt-ltb i k l)) (s.steps i l))

    formulas_hold : FormulasHold calls (k + 1) (system_of (flat_smv source) width) trace_of
    formulas_hold = record {
      init = (state_of (states 0) (next_label 0) (trace_of 0) (has_environment 0 (omega arith)).0).init.1 s.starts;
      trans = λ i l. step_at i (omega (arith, l));
      inv = λ i l. (state_of (states i) (next_label i) (trace_of i) (has_environment i (omega (arith, l))).0).invar.1 (s.stays i (omega (arith, l)));
    }

    meets : (j : ℕ) → is_broken (instances_of source) j (states k) ≡ true → MeetsQuery (script_for source) (query_of j) k trace_of
    meets j h =
        let reach : Reaches (script_for source) trace_of k j = ((state_of (states k) (next_label k) (trace_of k) (has_environment k (omega arith)).0).broken j).1 h in
        record {
          behaves = behaves (omega arith) (λ i l. (has_environment i (omega (arith, l))).1) formulas_hold no_subsystems;
          assumptions = λ i l. tt;
          currents = tt;
          reached = ((k, omega arith, reach), tt);
          reached_last = (0, j, omega arith, refl, reach);
        }

-- ---- the laws

pub traces_are_runs_law : TracesAreRuns
traces_are_runs_law source end text xs lexed spelled needed accepted j k trace m =
    let flat = flat_smv source in
    let c = coding_of flat (width_of flat) in
    let b = behaving source end text xs lexed spelled needed accepted trace k m.behaves in
    let h = broken_at source end text xs lexed spelled needed accepted trace k b j (only_one (Reaches (script_for source) trace k) j m.reached_last) in
    let n : k + 1 ≡ suc k = omega arith in
    let states : map given (decoded_steps (decoded_state flat c) trace 0 (k + 1)) ≡ listed (λ i. given (decoded_state flat c (trace i))) 0 (suc k) =
    ap (λ l. map given (decoded_steps (decoded_state flat c) trace 0 l)) n ∙ decoded_listed (decoded_state flat c) trace 0 (suc k) in
    subst (λ ss. BreaksAt source j k ss (map given (decoded_steps (decoded_label flat c) trace 0 k))) (sym states)
    (subst (λ ls. BreaksAt source j k (listed (λ i. given (decoded_state flat c (trace i))) 0 (suc k)) ls) (sym (decoded_listed (decoded_label flat c) trace 0 k)) h)

pub runs_have_traces_law : RunsHaveTraces
runs_have_traces_law source end text xs lexed spelled needed accepted j k states labels b =
    let t = instances_of source in
    let s = steps_of_run t states labels no_values no_values k b.counted b.run in
    let n : length states ≡ suc k = run_long t states labels b.run ∙ ap suc b.counted in (
      trace_of source end text xs lexed spelled needed accepted k (at states no_values) (at labels no_values) s,
      meets source end text xs lexed spelled needed accepted k (at states no_values) (at labels no_values) s j (last_breaks source j states no_values k n b.breaks),
    )
