-- A script's formulas in the environments of the rows of two states hold exactly where the model's do in the states.
use Rattle.std.proofs.Common.{◌≡◌, ℕ, ◌≤◌, true, List, sym, ◌∙◌}
use Rattle.std.specs.Prelude.{◌↔◌}
use Rattle.text_core.specs.declared.place.Place.{Place}
use Rattle.smv_text.specs.declared.token.Token.{Token}
use Rattle.smv_text.specs.declared.tree.When.TheVariants.{Always, First, Following}
use Rattle.smv_text.specs.Tree.{PlainSource}
use Rattle.smv_text.specs.Lexing.{Lexes}
use Rattle.smv_text.specs.Sources.{SpellsSource}
use Rattle.smv_meaning.specs.Values.{Valuation}
use Rattle.smv_meaning.specs.Instances.{instances_of}
use Rattle.smv_meaning.specs.Phases.{IsAccepted}
use Rattle.smv_meaning.specs.Runs.{init_holds, invar_holds, trans_holds, frozen_stay, step_holds, is_broken}
use Rattle.smv_meaning.specs.laws.Booleans.{both_true, two_true}
use Rattle.smv_flat.specs.FlatForms.{flat_smv}
use Rattle.smv_flat_laws.specs.FlatLaws.{row_of, HasTruth}
use Rattle.smv_flat.specs.FlatTruth.{forms_invariants}
use Rattle.smv_flat_laws.proofs.FlatLaw.{same_truth_law}
use Rattle.smv_flat.specs.FlatWidth.{width_of}
use Rattle.moxi_terms.specs.Value.{Calls, Values}
use Rattle.moxi_scripts.specs.Script.{formula_at}
use Rattle.moxi_scripts.specs.Behaviour.{Holds}
use Rattle.smv_script.specs.Terms.{Coding}
use Rattle.smv_script.specs.Script.{formula_of, reachables_from}
use Rattle.smv_script_laws.specs.TermLaws.{HasRow}
use Rattle.smv_script_laws.specs.FormulaLaws.{FormsMean, ItemsMean}
use Rattle.smv_script_laws.proofs.FormulaOutcomes.{forms_say_law, items_say_law}
use Rattle.smv_script_laws.proofs.Splits.{formula_splits_law}

-- of a state
pub record StateMeans (source : PlainSource) (c : Coding) (calls : Calls) (state : Valuation) (env : Values) : Type 0 where
  pub init : Holds calls env env (formula_of (flat_smv source) c First) ↔ (init_holds (instances_of source) state ≡ true)
  pub invar : Holds calls env env (formula_of (flat_smv source) c Always) ↔ (invar_holds (instances_of source) state ≡ true)
  pub broken : (j : ℕ) → Holds calls env env (formula_at (reachables_from c 0 (forms_invariants (flat_smv source).forms)) j) ↔ (is_broken (instances_of source) j state ≡ true)

module _ (source : PlainSource) (end : Place) (text : List ℕ) (xs : List Token) (lexed : Lexes text xs) (spelled : SpellsSource source end xs) (needed : ℕ) (accepted : IsAccepted source needed)
    (c : Coding) (wide : width_of (flat_smv source) ≤ c.width) (calls : Calls) where
  pub state_means : (state label : Valuation) (env : Values) → HasRow (instances_of source) c state label (row_of (instances_of source) state label) env → StateMeans source c calls state env
  state_means state label env r =
      let row = row_of (instances_of source) state label in
      let forms : FormsMean (flat_smv source) c row row calls env env = forms_say_law source end text xs lexed spelled needed accepted c wide state label state label row row calls env env r r in
      let items : ItemsMean (flat_smv source) c row row calls env env = items_say_law source end text xs lexed spelled needed accepted c wide state label state label row row calls env env r r in
      let truth : HasTruth (instances_of source) (flat_smv source) state label state row row = same_truth_law source end xs spelled needed accepted state label state label row row r.is_row r.is_row in
      let first = formula_splits_law (flat_smv source) c First calls env env in
      let always = formula_splits_law (flat_smv source) c Always calls env env in
      record {
        init = (λ h. sym truth.init ∙ forms.init.0 (first.0 h).forms, λ h. first.1 (record { items = items.init; forms = forms.init.1 (truth.init ∙ h) }));
        invar = (λ h. sym truth.invar ∙ forms.invar.0 (always.0 h).forms, λ h. always.1 (record { items = items.invar; forms = forms.invar.1 (truth.invar ∙ h) }));
        broken = λ j. (λ h. sym (truth.broken j) ∙ (forms.broken j).0 h, λ h. (forms.broken j).1 (truth.broken j ∙ h));
      }

  pub step_means : (state label following other : Valuation) (first second : Values) → HasRow (instances_of source) c state label (row_of (instances_of source) state label) first
      → HasRow (instances_of source) c following other (row_of (instances_of source) following other) second
      → Holds calls first second (formula_of (flat_smv source) c Following) ↔ (step_holds (instances_of source) state label following ≡ true)
  step_means state label following other first second r q =
      let t = instances_of source in
      let now = row_of t state label in
      let later = row_of t following other in
      let forms : FormsMean (flat_smv source) c now later calls first second = forms_say_law source end text xs lexed spelled needed accepted c wide state label following other now later calls first second r q in
      let items : ItemsMean (flat_smv source) c now later calls first second = items_say_law source end text xs lexed spelled needed accepted c wide state label following other now later calls first second r q in
      let truth : HasTruth t (flat_smv source) state label following now later = same_truth_law source end xs spelled needed accepted state label following other now later r.is_row q.is_row in
      let split = formula_splits_law (flat_smv source) c Following calls first second in (
        λ h.
            let p = split.0 h in
            two_true (trans_holds t state label following) (frozen_stay t state following) (sym truth.trans ∙ forms.trans.0 p.forms) (sym truth.stays ∙ items.trans.0 p.items),
        λ h.
            let b = both_true (trans_holds t state label following) (frozen_stay t state following) h in
            split.1 (record { items = items.trans.1 (truth.stays ∙ b.1); forms = forms.trans.1 (truth.trans ∙ b.0) }),
      )
