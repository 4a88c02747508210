-- What a model's flat form has is what the model has.
use Rattle.std.proofs.Common.{◌≡◌, ℕ, zero, suc, ◌+◌, ◌-◌, ◌<◌, ◌≤◌, ◌^◌, List, length, map, ap, ◌∙◌, arith, refl}
use Rattle.std.proofs.Math.Logic.{∥∥₁_map}
use Rattle.std.proofs.lemmas.List.{length-map}
use Rattle.btor_tree.specs.Fits.{count_of, is_input}
use Rattle.btor_witness.specs.declared.witness.Witness.{Witness}
use Rattle.btor_witness.specs.Sizes.{most_frames}
use Rattle.smv_text.specs.Tree.{PlainSource}
use Rattle.smv_meaning.specs.declared.value.Given.{Given}
use Rattle.smv_meaning.specs.declared.value.Run.{Run}
use Rattle.smv_meaning.specs.Runs.{IsRun, LastBreaks}
use Rattle.smv_meaning.specs.Values.{given}
use Rattle.smv_flat.specs.FlatForms.{PlainFlat, flat_smv}
use Rattle.smv_flatten.specs.FlatModel.{FlatModel, flat_plain, IsFormOf}
use Rattle.smv_script.specs.Script.{coding_of, script_of}
use Rattle.smv_script_laws.specs.Decoding.{decoded_state, decoded_steps, run_of}
use Rattle.smv_script_laws.specs.RunLaws.{decoded_run}
use Rattle.witness_lift.specs.LineLaws.{model_lines, model_system}
use Rattle.moxi_terms.specs.declared.data.Datum.{Datum}
use Rattle.moxi_terms.specs.Value.{Values}
use Rattle.moxi_flat.specs.FlatSystem.{PlainFlatSystem, flat_of}
use Rattle.moxi_lines.specs.Lines.{lines_of}
use Rattle.moxi_lift.specs.Lifted.{lifted}
use Rattle.witness_lift.specs.Breaking.{BreaksLast}
use Rattle.witness_lift.specs.Lifting.{lifted_run, lines_in, run_in, system_in}
use Rattle.generate.specs.Generating.{run_for}
use Rattle.generate.specs.Laws.{InputsAreVariables}
use Rattle.moxi_scripts.specs.Behaviour.{trace_of}

steps_long : (decoded : Values → List Given) (trace : ℕ → Values) (j n : ℕ) → length (decoded_steps decoded trace j n) ≡ n
steps_long decoded trace j zero = refl
steps_long decoded trace j (suc n) = ap suc (steps_long decoded trace (j + 1) n)

module _ (source : PlainSource) (f : FlatModel) (m : IsFormOf source f) where
  system_is : system_in f ≡ model_system source
  system_is = ap (λ (x : PlainFlat). flat_of (script_of x f.width)) m.form ∙ ap (λ (n : ℕ). flat_of (script_of (flat_smv source) n)) m.width

  pub lines_are : lines_in f ≡ model_lines source
  lines_are = ap lines_of system_is

  pub inputs_are : InputsAreVariables → count_of is_input (lines_in f) ≡ length (model_system source).variables
  inputs_are law = ap (count_of is_input) lines_are ∙ law source m.read.end m.read.text m.read.tokens m.read.lexed m.read.spelled m.needed m.accepted m.read.low

  run_is : (envs : List (List Datum)) → run_in f envs ≡ decoded_run source (trace_of envs) (length envs - 1)
  run_is envs =
      ap (λ (x : PlainFlat). run_of x (coding_of x f.width) (trace_of envs) (length envs - 1)) m.form
      ∙ ap (λ (n : ℕ). run_of (flat_smv source) (coding_of (flat_smv source) n) (trace_of envs) (length envs - 1)) m.width

  pub lifted_is : (w : Witness) → lifted_run f w ≡ run_for source w
  lifted_is w = run_is (lifted (system_in f) w) ∙ ap (λ (g : PlainFlatSystem). decoded_run source (trace_of (lifted g w)) (length (lifted g w) - 1)) system_is

  pub breaks_of : (w : Witness) (run : Run) → BreaksLast f w run → ∥ IsRun source (map given run.states) (map given run.labels) × LastBreaks source w.bad (map given run.states) ∥₁
  breaks_of w run law = ∥∥₁_map (law source m) (λ b. (b.run, b.breaks))

pub states_few : (f : FlatModel) (w : Witness) (run : Run) → run ≡ lifted_run f w → length w.frames ≤ most_frames → length run.states < 2 ^ 32
states_few f w run e few =
    let long : length (lifted_run f w).states ≡ length (lifted (system_in f) w) - 1 + 1 = steps_long (decoded_state (flat_plain f) (coding_of (flat_plain f) f.width)) (trace_of (lifted (system_in f) w)) 0 (length (lifted (system_in f) w) - 1 + 1) in
    let same : length (lifted (system_in f) w) ≡ length w.frames = length-map w.frames _ in
    let states : length run.states ≡ length (lifted_run f w).states = ap (λ (r : Run). length r.states) e in
    omega (arith, long, same, states, few)
