-- The steps of a run's states and labels, by their numbers.
use Rattle.std.proofs.Common.{◌≡◌, ℕ, zero, suc, ◌<◌, true, List, [], ◌∷◌, length, map, Some, refl, sym, ap, ◌∙◌, subst, arith}
use Rattle.std.specs.Prelude.{IsTrue, slice_get, slice_index_or}
use Rattle.std.specs.List.{AllByRecursion, list_all}
use Rattle.smv_text.specs.Tree.{PlainSource}
use Rattle.smv_meaning.specs.declared.value.Given.{Given}
use Rattle.smv_meaning.specs.Values.{Valuation, given}
use Rattle.smv_meaning.specs.Instances.{instances_of}
use Rattle.smv_meaning.specs.Runs.{label_fits, state_fits}
use Rattle.smv_meaning.specs.laws.Booleans.{both_true}
use Rattle.smv_flat.specs.FlatForms.{flat_smv}
use Rattle.smv_flat.specs.FlatWidth.{width_of}
use Rattle.smv_judge.specs.Labels.{first_label}
use Rattle.smv_script_laws.specs.EnvironmentLaws.{environment_in}
use Rattle.moxi_terms.specs.declared.data.Datum.{Datum}
use Rattle.moxi_terms.specs.declared.data.Sort.{Sort}
use Rattle.moxi_terms.specs.declared.term.Enumeration.{Enumeration}
use Rattle.moxi_terms.specs.Sorts.{Fit, IsOf}
use Rattle.moxi_terms.specs.Value.{Values}
use Rattle.moxi_lift.specs.Lifted.{values_upto}
use Rattle.witness_lift.specs.LineLaws.{model_system}
use Rattle.smv_judge.specs.Taken.{labels_left}
use Rattle.trace_lower.specs.Lowered.{next_label, steps_in}
use Rattle.moxi_lower.proofs.Back.{upto_front}

-- the value of this number, or the other one behind the list
abbrev pub nth : List Valuation → Valuation → ℕ → Valuation
nth xs d i = slice_index_or xs i d

abbrev pub last_label : PlainSource → Valuation
last_label source = given (first_label (flat_smv source).items)

abbrev pub step_of : PlainSource → Valuation → Valuation → List Datum
step_of source state label = values_upto (environment_in (instances_of source) (width_of (flat_smv source)) state label) (length (model_system source).variables)

pub steps_long : (source : PlainSource) (states labels : List (List Given)) → length (steps_in source states labels) ≡ length states
steps_long source [] labels = refl
steps_long source (s ∷ states) labels = ap suc (steps_long source states (labels_left labels))

module _ (source : PlainSource) (d : Valuation) where
  label_now : (labels : List (List Given)) → given (next_label source labels) ≡ nth (map given labels) (last_label source) 0
  label_now [] = refl
  label_now (l ∷ labels) = refl

  label_later : (labels : List (List Given)) (i : ℕ) → nth (map given (labels_left labels)) (last_label source) i ≡ nth (map given labels) (last_label source) (suc i)
  label_later [] i = refl
  label_later (l ∷ labels) i = refl

  pub step_at : (states labels : List (List Given)) (i : ℕ) → i < length states → slice_index_or (steps_in source states labels) i [] ≡ step_of source (nth (map given states) d i) (nth (map given labels) (last_label source) i)
  step_at [] labels i h = absurd (omega (arith, h))
  step_at (s ∷ states) labels zero h = ap (step_of source (given s)) (label_now labels)
  step_at (s ∷ states) labels (suc i) h =
      step_at states (labels_left labels) i (omega (arith, h)) ∙ ap (step_of source (nth (map given states) d i)) (label_later labels i)

-- ---- values of their sorts

pub upto_fits : (es : List Enumeration) (ss : List Sort) (values : Values) → ((v : ℕ) (s : Sort) → slice_get ss v ≡ Some s → IsOf es s (values v)) → Fit es ss (values_upto values (length ss))
upto_fits es [] values h = tt
upto_fits es (s ∷ ss) values h =
    subst (Fit es (s ∷ ss)) (sym (upto_front values (length ss))) (h 0 s refl, upto_fits es ss (λ v. values (suc v)) (λ v u g. h (suc v) u g))

-- what holds of each state under each label of the declared types holds of each step
pub each_step : (source : PlainSource) (P : List Datum → Type 0) → ((s l : Valuation) → state_fits (instances_of source) s ≡ true → label_fits (instances_of source) l ≡ true → P (step_of source s l))
    → label_fits (instances_of source) (last_label source) ≡ true → (states labels : List (List Given)) → IsTrue (list_all (state_fits (instances_of source)) (map given states)) → IsTrue (list_all (label_fits (instances_of source)) (map given labels))
    → AllByRecursion P (steps_in source states labels)
each_step source P each last [] labels a b = tt
each_step source P each last (s ∷ states) [] a b =
    let x = both_true (state_fits (instances_of source) (given s)) (list_all (state_fits (instances_of source)) (map given states)) a in
    (each (given s) (last_label source) x.0 last, each_step source P each last states [] x.1 b)
each_step source P each last (s ∷ states) (l ∷ labels) a b =
    let x = both_true (state_fits (instances_of source) (given s)) (list_all (state_fits (instances_of source)) (map given states)) a in
    let y = both_true (label_fits (instances_of source) (given l)) (list_all (label_fits (instances_of source)) (map given labels)) b in
    (each (given s) (given l) x.0 y.0, each_step source P each last states labels x.1 y.1)
