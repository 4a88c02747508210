-- The witness that states a run of a model (NuSMV 2.6 User Manual, 2.3 and 2.4; BTOR2, CAV 2018, witness format).
use Rattle.std.specs.Prelude.{ℕ, List, [], ◌∷◌, length, map}
use Rattle.text_core.specs.declared.verdict.Verdict.{Verdict}
use Rattle.btor_witness.specs.declared.witness.Witness.{Witness}
use Rattle.smv_text.specs.Tree.{PlainSource}
use Rattle.smv_meaning.specs.declared.value.Given.{Given}
use Rattle.smv_meaning.specs.declared.value.Run.{Run}
use Rattle.smv_meaning.specs.Values.{given}
use Rattle.smv_meaning.specs.Instances.{instances_of}
use Rattle.smv_meaning.specs.Runs.{judged_smv}
use Rattle.smv_flat.specs.FlatForms.{flat_smv}
use Rattle.smv_flat.specs.FlatWidth.{width_of}
use Rattle.smv_judge.specs.Labels.{first_label}
use Rattle.smv_judge.specs.Taken.{labels_left}
use Rattle.smv_script_laws.specs.EnvironmentLaws.{environment_in}
use Rattle.moxi_terms.specs.declared.data.Datum.{Datum}
use Rattle.moxi_lift.specs.Lifted.{values_upto}
use Rattle.moxi_lower.specs.Lowered.{lowered as lowered_trace}
use Rattle.witness_lift.specs.LineLaws.{model_system}

-- the values of all variables of the model's system in a state and under a label: of states, frozen variables, inputs, definitions and
-- actuals
abbrev pub step_in : PlainSource → List Given → List Given → List Datum
step_in source state label =
    values_upto (environment_in (instances_of source) (width_of (flat_smv source)) (given state) (given label)) (length (model_system source).variables)

-- the label of the first state; where none is left, each input has the first value of its type
abbrev pub next_label : PlainSource → List (List Given) → List Given
next_label source [] = first_label (flat_smv source).items
next_label source (l ∷ labels) = l

-- a step for each state, under the label of the transition that leaves it
abbrev pub steps_in : PlainSource → List (List Given) → List (List Given) → List (List Datum)
steps_in source [] labels = []
steps_in source (s ∷ states) labels = step_in source s (next_label source labels) ∷ steps_in source states (labels_left labels)

-- the witness that states these values in its frames, and no state, up to the bad line of invariant j
abbrev pub lowered : PlainSource → ℕ → Run → Witness
lowered source j run = lowered_trace (model_system source) j (steps_in source run.states run.labels)

-- the verdict on the run
abbrev pub verdict_on : PlainSource → ℕ → Run → Verdict
verdict_on source j run = judged_smv source j (map given run.states) (map given run.labels)
