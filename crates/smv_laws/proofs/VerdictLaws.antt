-- A verdict is Yes exactly for a run whose last state breaks the invariant.
use Rattle.std.proofs.Common.{◌≡◌, ℕ, ◌+◌, Bool, true, false, ◌&&◌, if◌then◌else◌, List, [], ◌∷◌, refl}
use Rattle.std.specs.List.{list_all}
use Rattle.text_core.specs.declared.verdict.Clause.{Clause}
use Rattle.text_core.specs.declared.verdict.Clause.TheVariants.{ValueOutside, InitFails, TransFails, InvarFails, NotBroken}
use Rattle.text_core.specs.declared.verdict.Verdict.{Verdict}
use Rattle.text_core.specs.declared.verdict.Verdict.TheVariants.{Yes, No}
use Rattle.smv_text.specs.Tree.{PlainSource}
use Rattle.smv_meaning.specs.laws.Booleans.{both_true, two_true}
use Rattle.smv_meaning.specs.Values.{Valuation}
use Rattle.smv_meaning.specs.Instances.{instances_of}
use Rattle.smv_meaning.specs.Runs.{state_fits, label_fits, init_holds, invar_holds, step_holds, is_broken, StepsHold, IsRun, LastBreaks, judged_after, judged_in}
use Rattle.smv_meaning.specs.Verdicts.{YesIsRun}

passed : (b : Bool) (n : ℕ) (c : Clause) (v : Verdict) → (if b then v else No n c) ≡ Yes → (b ≡ true) × (v ≡ Yes)
passed true n c v h = (refl, h)
passed false n c v h = cc

passes_on : (b : Bool) (n : ℕ) (c : Clause) (v : Verdict) → b ≡ true → v ≡ Yes → (if b then v else No n c) ≡ Yes
passes_on true n c v e h = h
passes_on false n c v e h = cc

-- what is asked of the states and labels behind a state
record Follows (source : PlainSource) (j : ℕ) (s : Valuation) (states labels : List Valuation) : Type 0 where
  values : list_all (state_fits (instances_of source)) states ≡ true
  inputs : list_all (label_fits (instances_of source)) labels ≡ true
  stays : list_all (invar_holds (instances_of source)) states ≡ true
  steps : StepsHold (instances_of source) (s ∷ states) labels
  breaks : LastBreaks source j (s ∷ states)

follows : (source : PlainSource) (j n : ℕ) (s : Valuation) (states labels : List Valuation) → judged_after (instances_of source) j n s states labels ≡ Yes → Follows source j s states labels
follows source j n s [] [] h =
    record { values = refl; inputs = refl; stays = refl; steps = tt; breaks = (passed (is_broken (instances_of source) j s) n NotBroken Yes h).0 }
follows source j n s [] (l ∷ labels) h = cc
follows source j n s (u ∷ states) [] h = cc
follows source j n s (u ∷ states) (l ∷ labels) h =
    let t = instances_of source in
    let rest = judged_after t j (n + 1) u states labels in
    let a = passed (state_fits t u && label_fits t l) (n + 1) ValueOutside _ h in
    let b = passed (step_holds t s l u) (n + 1) TransFails _ a.1 in
    let c = passed (invar_holds t u) (n + 1) InvarFails rest b.1 in
    let f = both_true (state_fits t u) (label_fits t l) a.0 in
    let more = follows source j (n + 1) u states labels c.1 in
    record {
      values = two_true (state_fits t u) (list_all (state_fits t) states) f.0 more.values;
      inputs = two_true (label_fits t l) (list_all (label_fits t) labels) f.1 more.inputs;
      stays = two_true (invar_holds t u) (list_all (invar_holds t) states) c.0 more.stays;
      steps = (b.0, more.steps);
      breaks = more.breaks;
    }

is_yes : (source : PlainSource) (j n : ℕ) (s : Valuation) (states labels : List Valuation) → Follows source j s states labels → judged_after (instances_of source) j n s states labels ≡ Yes
is_yes source j n s [] [] h = passes_on (is_broken (instances_of source) j s) n NotBroken Yes h.breaks refl
is_yes source j n s [] (l ∷ labels) h = absurd h.steps
is_yes source j n s (u ∷ states) [] h = absurd h.steps
is_yes source j n s (u ∷ states) (l ∷ labels) h =
    let t = instances_of source in
    let values = both_true (state_fits t u) (list_all (state_fits t) states) h.values in
    let inputs = both_true (label_fits t l) (list_all (label_fits t) labels) h.inputs in
    let stays = both_true (invar_holds t u) (list_all (invar_holds t) states) h.stays in
    let more = is_yes source j (n + 1) u states labels (record { values = values.1; inputs = inputs.1; stays = stays.1; steps = h.steps.1; breaks = h.breaks }) in
    passes_on (state_fits t u && label_fits t l) (n + 1) ValueOutside _ (two_true (state_fits t u) (label_fits t l) values.0 inputs.0)
    (passes_on (step_holds t s l u) (n + 1) TransFails _ h.steps.0 (passes_on (invar_holds t u) (n + 1) InvarFails _ stays.0 more))

run_of : (source : PlainSource) (j : ℕ) (states labels : List Valuation) → judged_in (instances_of source) j states labels ≡ Yes → IsRun source states labels × LastBreaks source j states
run_of source j [] labels h = cc
run_of source j (s ∷ states) labels h =
    let t = instances_of source in
    let a = passed (state_fits t s) 0 ValueOutside _ h in
    let b = passed (init_holds t s) 0 InitFails _ a.1 in
    let c = passed (invar_holds t s) 0 InvarFails _ b.1 in
    let more = follows source j 0 s states labels c.1 in (
      record {
        values = two_true (state_fits t s) (list_all (state_fits t) states) a.0 more.values;
        inputs = more.inputs;
        starts = b.0;
        stays = two_true (invar_holds t s) (list_all (invar_holds t) states) c.0 more.stays;
        steps = more.steps;
      },
      more.breaks,
    )

yes_of : (source : PlainSource) (j : ℕ) (states labels : List Valuation) → IsRun source states labels × LastBreaks source j states → judged_in (instances_of source) j states labels ≡ Yes
yes_of source j [] labels h = absurd h.1
yes_of source j (s ∷ states) labels h =
    let t = instances_of source in
    let values = both_true (state_fits t s) (list_all (state_fits t) states) h.0.values in
    let stays = both_true (invar_holds t s) (list_all (invar_holds t) states) h.0.stays in
    let more = is_yes source j 0 s states labels (record { values = values.1; inputs = h.0.inputs; stays = stays.1; steps = h.0.steps; breaks = h.1 }) in
    passes_on (state_fits t s) 0 ValueOutside _ values.0
    (passes_on (init_holds t s) 0 InitFails _ h.0.starts (passes_on (invar_holds t s) 0 InvarFails _ stays.0 more))

pub yes_is_run_law : YesIsRun
yes_is_run_law source j states labels = (run_of source j states labels, yes_of source j states labels)
