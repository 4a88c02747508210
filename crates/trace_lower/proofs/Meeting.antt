-- The environments of a run's states and labels are a trace of the model's script that meets the query of the invariant.
use Rattle.std.proofs.Common.{◌≡◌, ℕ, ◌+◌, ◌<◌, ◌≤◌, true, Option, Some, None, refl, sym, subst, arith, inl, inr}
use Rattle.std.specs.Prelude.{slice_get}
use Rattle.std.proofs.Math.Nat.{eq-or-lt_of_le}
use Rattle.std.proofs.lemmas.Option.{slice_get_within}
use Rattle.smv_text.specs.declared.tree.When.TheVariants.{Following}
use Rattle.smv_text.specs.Tree.{Tree, PlainSource}
use Rattle.smv_meaning.specs.Values.{Valuation}
use Rattle.smv_meaning.specs.Instances.{instances_of}
use Rattle.smv_meaning.specs.Phases.{IsAccepted, invariants_in}
use Rattle.smv_meaning.specs.Runs.{is_broken, is_false_at, label_fits, state_fits}
use Rattle.smv_meaning.specs.laws.Booleans.{absurd_bool}
use Rattle.smv_flat.specs.FlatForms.{flat_smv}
use Rattle.smv_flat.specs.FlatWidth.{width_of}
use Rattle.smv_flatten.specs.FlatModel.{IsRead}
use Rattle.moxi_terms.specs.Value.{Calls, Values}
use Rattle.moxi_scripts.specs.Script.{calls_in, query_of}
use Rattle.moxi_scripts.specs.Behaviour.{behaves, no_subsystems, FormulasHold, Holds, Trace}
use Rattle.moxi_scripts.specs.Meeting.{MeetsQuery, Reaches}
use Rattle.smv_script.specs.Terms.{Coding}
use Rattle.smv_script.specs.Script.{coding_of, formula_of, script_for, system_of}
use Rattle.smv_script_laws.specs.EnvironmentLaws.{HasEnvironment, IsEnvironmentOf, environment_in}
use Rattle.smv_script_laws.specs.RunLaws.{invariant_count}
use Rattle.smv_script_laws.proofs.Environments.{rows_have_environments_law}
use Rattle.smv_script_laws.proofs.Listed.{Steps}
use Rattle.smv_script_laws.proofs.RunMeanings.{StateMeans, state_means, step_means}

-- ---- an invariant that is broken is there

pub broken_there : (source : PlainSource) (state : Valuation) (j : ℕ) → is_broken (instances_of source) j state ≡ true → j < invariant_count source
broken_there source state j h = by (slice_get (invariants_in (instances_of source)) j) refl h
  where
    by : (o : Option (ℕ × Tree)) → slice_get (invariants_in (instances_of source)) j ≡ o → is_false_at (instances_of source) state o ≡ true → j < invariant_count source
    by None e g = absurd_bool g
    by (Some x) e g = slice_get_within (invariants_in (instances_of source)) j x e

-- a state and a label of the declared types
pub record HasFits (source : PlainSource) (state label : Valuation) : Type 0 where
  pub of_state : state_fits (instances_of source) state ≡ true
  pub of_label : label_fits (instances_of source) label ≡ true

module _ (source : PlainSource) (needed : ℕ) (read : IsRead source) (accepted : IsAccepted source needed) where
  abbrev width : ℕ
  width = width_of (flat_smv source)

  abbrev coding : Coding
  coding = coding_of (flat_smv source) width

  abbrev calls : Calls
  calls = calls_in (script_for source).scope

  wide : width ≤ width
  wide = omega arith

  pub environment_there : (state label : Valuation) → HasFits source state label → HasEnvironment (instances_of source) width state label
  environment_there state label f = rows_have_environments_law source read.end read.text read.tokens read.lexed read.spelled needed accepted state label f.of_state f.of_label

  state_of : (state label : Valuation) (env : Values) → IsEnvironmentOf (instances_of source) width state label env → StateMeans source coding calls state env
  state_of state label env r = state_means source read.end read.text read.tokens read.lexed read.spelled needed accepted coding wide calls state label env r

  module _ (k : ℕ) (states labels : ℕ → Valuation) (s : Steps (instances_of source) states labels k) (last : label_fits (instances_of source) (labels k) ≡ true) where
    abbrev trace : Trace
    trace i = environment_in (instances_of source) width (states i) (labels i)

    labels_fit : (i : ℕ) → i ≤ k → label_fits (instances_of source) (labels i) ≡ true
    labels_fit i l = elim (eq-or-lt_of_le l) [ inl e ↦ subst (λ n. label_fits (instances_of source) (labels n) ≡ true) (sym e) last | inr b ↦ s.inputs i b ]

    there : (i : ℕ) → i ≤ k → HasEnvironment (instances_of source) width (states i) (labels i)
    there i l = environment_there (states i) (labels i) (record { of_state = s.values i l; of_label = labels_fit i l })

    step_at : (i : ℕ) → i < k → Holds calls (trace i) (trace (i + 1)) (formula_of (flat_smv source) coding Following)
    step_at i l =
        (step_means source read.end read.text read.tokens read.lexed read.spelled needed accepted coding wide calls (states i) (labels i) (states (i + 1)) (labels (i + 1)) (trace i) (trace (i + 1))
        (there i (omega (arith, l))).0 (there (i + 1) (omega (arith, l))).0).1 (s.steps i l)

    formulas_hold : FormulasHold calls (k + 1) (system_of (flat_smv source) width) trace
    formulas_hold = record {
      init = (state_of (states 0) (labels 0) (trace 0) (there 0 (omega arith)).0).init.1 s.starts;
      trans = λ i l. step_at i (omega (arith, l));
      inv = λ i l. (state_of (states i) (labels i) (trace i) (there i (omega (arith, l))).0).invar.1 (s.stays i (omega (arith, l)));
    }

    pub meets : (j : ℕ) → is_broken (instances_of source) j (states k) ≡ true → MeetsQuery (script_for source) (query_of j) k trace
    meets j h =
        let reach : Reaches (script_for source) trace k j = ((state_of (states k) (labels k) (trace k) (there k (omega arith)).0).broken j).1 h in
        record {
          behaves = behaves (omega arith) (λ i l. (there i (omega (arith, l))).1) formulas_hold no_subsystems;
          assumptions = λ i l. tt;
          currents = tt;
          reached = ((k, omega arith, reach), tt);
          reached_last = (0, j, omega arith, refl, reach);
        }
