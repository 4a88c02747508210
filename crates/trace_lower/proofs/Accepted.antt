-- The judge accepts the witness that states a run, whichever lines lay the model's system out.
use Rattle.std.proofs.Common.{◌≡◌, ℕ, zero, suc, ◌+◌, ◌-◌, ◌<◌, ◌≤◌, true, List, [], ◌∷◌, ◌++◌, length, map, Some, refl, sym, ap, ◌∙◌, subst, arith}
use Rattle.std.specs.Prelude.{IsSomeAnd, slice_get}
use Rattle.std.proofs.Math.ListN.{get_or-eq_default}
use Rattle.std.proofs.lemmas.List.{append-nil, length-append, length-map}
use Rattle.std.proofs.lemmas.Option.{slice_get_within}
use Rattle.btor_tree.specs.declared.lines.Line.{Line}
use Rattle.btor_tree.specs.Fits.{is_input}
use Rattle.btor_witness.specs.declared.witness.Stated.{Stated}
use Rattle.btor_witness.specs.declared.witness.Frame.{Frame}
use Rattle.btor_witness.specs.declared.witness.Witness.{Witness}
use Rattle.btor_witness.specs.Printing.{one_statement, rising, rising_frame}
use Rattle.btor_witness.specs.Sizes.{sizes_of, widths_of}
use Rattle.btor_witness.proofs.Tables.{length_widths}
use Rattle.smv_text.specs.Tree.{PlainSource}
use Rattle.smv_meaning.specs.declared.value.Run.{Run}
use Rattle.smv_meaning.specs.Values.{Valuation, given}
use Rattle.smv_meaning.specs.Instances.{instances_of}
use Rattle.smv_meaning.specs.Phases.{IsAccepted}
use Rattle.smv_meaning.specs.Runs.{IsRun, LastBreaks, is_broken, label_fits, no_values, state_fits}
use Rattle.smv_meaning.specs.Verdicts.{YesIsRun}
use Rattle.smv_flat.specs.FlatForms.{flat_smv}
use Rattle.smv_flat.specs.FlatWidth.{width_of}
use Rattle.smv_flatten.specs.FlatModel.{IsRead}
use Rattle.smv_judge.proofs.StepLaws.{own_label}
use Rattle.smv_script.specs.Script.{check_of, script_for}
use Rattle.smv_script_laws.specs.EnvironmentLaws.{environment_in}
use Rattle.smv_script_laws.specs.ValidLaws.{ScriptsAreValid}
use Rattle.smv_script_laws.proofs.Queries.{has_queries_law}
use Rattle.smv_script_laws.proofs.Listed.{Steps, last_breaks, run_long, steps_of_run}
use Rattle.moxi_terms.specs.declared.data.Datum.{Datum}
use Rattle.moxi_terms.specs.declared.term.Enumeration.{Enumeration}
use Rattle.moxi_terms.specs.Sorts.{Fit}
use Rattle.moxi_terms.specs.Tree.{sorts_of}
use Rattle.moxi_terms.specs.Value.{Values, at}
use Rattle.moxi_scripts.specs.Behaviour.{Trace, trace_of}
use Rattle.moxi_scripts.specs.Valid.{IsValidQuery, check_variables}
use Rattle.moxi_scripts.specs.laws.WholeParts.{all_at}
use Rattle.moxi_flat.specs.FlatLaws.{TracesHaveFlatTraces}
use Rattle.moxi_flat.specs.FlatMeeting.{MeetsFlat}
use Rattle.moxi_layout.specs.LayoutLaws.{IsLaidOut}
use Rattle.moxi_layout.proofs.Entries.{input_count, sorts_long}
use Rattle.moxi_layout.proofs.Same.{meets_same}
use Rattle.moxi_layout.proofs.Terms.{Agree}
use Rattle.moxi_lift.specs.Laws.{MeetsQueryOf}
use Rattle.moxi_lift.specs.Lifted.{values_upto}
use Rattle.moxi_lift.proofs.Upto.{at_upto}
use Rattle.moxi_lower.specs.Laws.{AreSteps, LoweredAreJudged, LoweredAreWitnesses}
use Rattle.moxi_lower.specs.Lowered.{codes_upto, lowered_step, stated_code}
use Rattle.moxi_lower.proofs.Codes.{code_stated}
use Rattle.witness_lift.specs.LineLaws.{model_system}
use Rattle.trace_lower.specs.Laws.{LoweredAreAccepted}
use Rattle.trace_lower.specs.Lowered.{steps_in}
use Rattle.trace_lower.proofs.Meeting.{broken_there, environment_there, meets}
use Rattle.trace_lower.proofs.Steps.{each_step, last_label, nth, step_at, step_of, steps_long, upto_fits}
use Rattle.moxi_scripts.specs.Script.{query_of}

-- ---- rising order

rising_none : (n : ℕ) → rising [] n ≡ []
rising_none zero = refl
rising_none (suc n) = ap (λ (xs : List Stated). xs ++ []) (rising_none n)

module _ (es : List Enumeration) (values : Values) (n : ℕ) where
  rising_codes : (m : ℕ) → m ≤ n → rising (codes_upto es values n) m ≡ codes_upto es values m
  rising_codes zero h = refl
  rising_codes (suc m) h =
      ap (λ o. rising (codes_upto es values n) m ++ one_statement m o) (code_stated es values n m (omega (arith, h)))
      ∙ ap (λ (xs : List Stated). xs ++ stated_code es values m ∷ []) (rising_codes m (omega (arith, h)))

frames_rise : (lines : List Line) (es : List Enumeration) (n : ℕ) → length (widths_of is_input lines) ≡ n → (envs : List (List Datum)) → map (rising_frame (sizes_of lines)) (map (lowered_step es n) envs) ≡ map (lowered_step es n) envs
frames_rise lines es n long [] = refl
frames_rise lines es n long (env ∷ envs) =
    let sizes = sizes_of lines in
    let rest = map (rising_frame sizes) (map (lowered_step es n) envs) in
    let stated = codes_upto es (at env) n in
    let none : rising [] (length sizes.states) ≡ [] = rising_none (length sizes.states) in
    let all : rising stated (length sizes.inputs) ≡ stated = ap (rising stated) long ∙ rising_codes es (at env) n n (omega arith) in
    ap (λ (xs : List Stated). let x : Frame = record { states = xs; inputs = rising stated (length sizes.inputs) } in x ∷ rest) none
    ∙ ap (λ (xs : List Stated). let x : Frame = record { states = []; inputs = xs } in x ∷ rest) all
    ∙ ap (λ (xs : List Frame). lowered_step es n env ∷ xs) (frames_rise lines es n long envs)

-- ---- a run that the judge accepts

module _ (source : PlainSource) (needed : ℕ) (read : IsRead source) (accepted : IsAccepted source needed) where
  pub last_fits : label_fits (instances_of source) (last_label source) ≡ true
  last_fits = own_label (flat_smv source) source (record { needed = needed; read = read; accepted = accepted; form = refl })

  -- the variables of the model's system
  pub variables_long : length (model_system source).variables ≡ length (check_variables (check_of (flat_smv source) (width_of (flat_smv source))))
  variables_long =
      let vs = check_variables (check_of (flat_smv source) (width_of (flat_smv source))) in
      let all : length (model_system source).variables ≡ length vs + 0 = length-append vs [] in
      omega (arith, all)

  step_fits : (s l : Valuation) → state_fits (instances_of source) s ≡ true → label_fits (instances_of source) l ≡ true → Fit (model_system source).scope.enumerations (sorts_of (model_system source).variables) (step_of source s l)
  step_fits s l a b =
      let f = model_system source in
      let values = environment_in (instances_of source) (width_of (flat_smv source)) s l in
      let suits = (environment_there source needed read accepted s l (record { of_state = a; of_label = b })).1 in
      let same : sorts_of f.variables ≡ sorts_of (check_variables (check_of (flat_smv source) (width_of (flat_smv source)))) =
      ap sorts_of (append-nil (check_variables (check_of (flat_smv source) (width_of (flat_smv source))))) in
      subst (λ (n : ℕ). Fit f.scope.enumerations (sorts_of f.variables) (values_upto values n)) (sorts_long f.variables)
      (upto_fits f.scope.enumerations (sorts_of f.variables) values (λ v u g. suits.each v u (ap (λ ss. slice_get ss v) (sym same) ∙ g)))

  pub run_steps : (run : Run) → IsRun source (map given run.states) (map given run.labels) → AreSteps (model_system source) (steps_in source run.states run.labels)
  run_steps run is = each_step source (Fit (model_system source).scope.enumerations (sorts_of (model_system source).variables)) step_fits last_fits run.states run.labels is.values is.inputs

  module _ (j : ℕ) (run : Run) (is : IsRun source (map given run.states) (map given run.labels)) (breaks : LastBreaks source j (map given run.states)) where
    abbrev k : ℕ
    k = length (map given run.labels)

    abbrev states : ℕ → Valuation
    states = nth (map given run.states) no_values

    abbrev labels : ℕ → Valuation
    labels = nth (map given run.labels) (last_label source)

    long : length (map given run.states) ≡ suc k
    long = run_long (instances_of source) (map given run.states) (map given run.labels) is

    pub sized : length (steps_in source run.states run.labels) ≡ suc k
    sized = steps_long source run.states run.labels ∙ sym (length-map run.states given) ∙ long

    behind : labels k ≡ last_label source
    behind = get_or-eq_default (map given run.labels) (last_label source) (omega arith)

    steps : Steps (instances_of source) states labels k
    steps = steps_of_run (instances_of source) (map given run.states) (map given run.labels) no_values (last_label source) k refl is

    broken : is_broken (instances_of source) j (states k) ≡ true
    broken = last_breaks source j (map given run.states) no_values k long breaks

    abbrev trace : Trace
    trace i = environment_in (instances_of source) (width_of (flat_smv source)) (states i) (labels i)

    same_value : (i v : ℕ) → i ≤ k → v < length (model_system source).variables → trace i v ≡ trace_of (steps_in source run.states run.labels) i v
    same_value i v l h =
        let inside : i < length run.states = omega (arith, l, long, length-map run.states given) in
        sym (ap (λ env. at env v) (step_at source no_values run.states run.labels i inside) ∙ at_upto (trace i) (length (model_system source).variables) v h)

    pub query_there : j < length (model_system source).queries
    query_there = subst (λ (n : ℕ). j < n) (sym (has_queries_law source).counted) (broken_there source (states k) j broken)

    pub meets_query : ScriptsAreValid → TracesHaveFlatTraces → (lines : List Line) → IsLaidOut (model_system source) lines → MeetsQueryOf (model_system source) j (steps_in source run.states run.labels)
    meets_query whole flat lines laid =
        let f = model_system source in
        let s = script_for source in
        let q = query_of j in
        let envs = steps_in source run.states run.labels in
        let g : slice_get f.queries j ≡ Some q = (has_queries_law source).each j (broken_there source (states k) j broken) in
        let met = meets source needed read accepted k states labels steps (subst (λ l. label_fits (instances_of source) l ≡ true) (sym behind) last_fits) j broken in
        let x = (flat s (whole source read.end read.text read.tokens read.lexed read.spelled needed accepted) q k trace).0 met in
        let agree = λ (i : ℕ) (l : i ≤ k). let a : Agree (sorts_of f.variables) (x.flat i) (trace_of envs i) = record {
          each = λ v u h.
              let inside : v < length f.variables = omega (arith, slice_get_within (sorts_of f.variables) v u h, sorts_long f.variables) in
              x.extends.each i v l (omega (arith, inside, variables_long)) ∙ same_value i v l inside;
        } in a in
        let w : IsValidQuery (length f.assumptions) (length f.currents) (length f.reachables) q = all_at (IsValidQuery (length f.assumptions) (length f.currents) (length f.reachables)) f.queries j q laid.sorted.queries g in
        let m : MeetsFlat f q k (trace_of envs) = meets_same f laid.sorted k x.flat (trace_of envs) agree q w x.meets in
        let last : k ≡ length envs - 1 = omega (arith, sized) in
        subst (λ o. IsSomeAnd o (λ z. MeetsFlat f z (length envs - 1) (trace_of envs))) (sym g) (subst (λ n. MeetsFlat f q n (trace_of envs)) last m)

pub lowered_are_accepted_law : YesIsRun → ScriptsAreValid → TracesHaveFlatTraces → LoweredAreWitnesses → LoweredAreJudged → LoweredAreAccepted
lowered_are_accepted_law runs whole flat witnesses judges source needed read accepted j run verdict lines laid =
    let f = model_system source in
    let envs = steps_in source run.states run.labels in
    let r = (runs source j (map given run.states) (map given run.labels)).0 verdict in
    let there = query_there source needed read accepted j run r.0 r.1 in
    let some : 1 ≤ length envs = omega (arith, sized source needed read accepted j run r.0 r.1) in
    let fit = run_steps source needed read accepted run r.0 in
    let count : length (widths_of is_input lines) ≡ length f.variables = length_widths lines is_input lines ∙ input_count f lines laid.lays.order in
    record {
      witness = witnesses f lines laid j there envs some fit;
      accepted = (judges f lines laid j there envs some fit).1 (meets_query source needed read accepted j run r.0 r.1 whole flat lines laid);
      rises = ap (λ (xs : List Frame). let w : Witness = record { bad = j; frames = xs } in w) (frames_rise lines f.scope.enumerations (length f.variables) count envs);
    }
