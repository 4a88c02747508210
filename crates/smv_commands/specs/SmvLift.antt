-- The trace to which a witness for an SMV model's BTOR2 text is lifted, and its properties (NuSMV 2.6 User Manual; BTOR2, CAV 2018).
use Rattle.std.specs.Prelude.{◌≡◌, ◌⊎◌, ◌++◌, ◌-◌, ℕ, Bool, true, false, List, length, map, Option, Some}
use Rattle.std.specs.List.{list_any}
use Rattle.text_core.specs.Outside.{Files, file_at, grown}
use Rattle.text_core.specs.declared.verdict.Verdict.TheVariants.{Yes}
use Rattle.smv_text.specs.declared.tree.VarKind.TheVariants.{Input}
use Rattle.smv_text.specs.Tree.{PlainDomain, instance, PlainElement, vars, PlainSource}
use Rattle.smv_meaning.specs.declared.value.Run.{Run}
use Rattle.smv_meaning.specs.Values.{given}
use Rattle.smv_meaning.specs.Instances.{instances_of}
use Rattle.smv_items.specs.FlatItemView.{item_plain}
use Rattle.smv_flatten.specs.FlatModel.{FlatModel}
use Rattle.smv_trace_text.specs.Texts.{claim_back, claim_front, has_inputs, steps_text}
use Rattle.smv_script_laws.specs.RunLaws.{BreaksAt, decoded_run}
use Rattle.btor_tree.specs.declared.lines.Line.{Line}
use Rattle.btor_tree.specs.Texts.{SpellsLines}
use Rattle.btor_witness.specs.declared.witness.Witness.{Witness}
use Rattle.btor_witness.specs.Judging.{judged_btor}
use Rattle.btor_witness.specs.Texts.{SpellsWitness}
use Rattle.moxi_terms.specs.declared.data.Datum.{Datum}
use Rattle.moxi_lift.specs.Lifted.{lifted}
use Rattle.witness_lift.specs.LineLaws.{model_system}
use Rattle.witness_lift.specs.Lifting.{lifted_run as run_lifted_to}
use Rattle.command_core.specs.declared.answer.Answer.{Answer}
use Rattle.command_core.specs.Reading.{ContinuesWith, file_within}
use Rattle.smv_models.specs.Limits.{most_smv_bytes}
use Rattle.smv_models.specs.Models.{IsAcceptedModel, IsRefusal, smv_too_long}
use Rattle.smv_commands.specs.Translation.{Accepts, btor_text}
use Rattle.btor_commands.specs.Lifting.{OfLines}
use Rattle.moxi_scripts.specs.Behaviour.{trace_of}

-- the run that steps of the model's script represent; the inputs of the last step are left out
abbrev pub run_for : PlainSource → List (List Datum) → Run
run_for source steps = decoded_run source (trace_of steps) (length steps - 1)

-- the run to which a witness is lifted, with a state for each frame
abbrev pub lifted_run : PlainSource → Witness → Run
lifted_run source w = run_for source (lifted (model_system source) w)

-- ---- whether a model has inputs

-- the declaration is a variable, not an instance
abbrev pub is_variable : PlainDomain → Bool
is_variable (instance name actuals) = false
is_variable d = true

abbrev pub declares_inputs : PlainElement → Bool
declares_inputs (vars Input variables) = list_any (λ v. is_variable v.domain) variables
declares_inputs e = false

-- some instance declares an input
abbrev pub model_has_inputs : PlainSource → Bool
model_has_inputs source = list_any (λ at. list_any declares_inputs at.module.elements) (instances_of source)

-- ---- the trace

-- the printed trace of a run that breaks the invariant of this number; with inputs where the model has some
unfoldable pub run_text : Bool → ℕ → Run → List ℕ
run_text inputs j run = claim_front j ++ (claim_back (length run.states) ++ steps_text inputs run.states run.labels)

-- the trace of the run to which a witness is lifted
unfoldable pub lifted_trace : PlainSource → Witness → List ℕ
lifted_trace source w = run_text (model_has_inputs source) w.bad (lifted_run source w)

-- the answer for the witness in the second file and the model that the bytes spell, or the refusal of the bytes
abbrev pub OfBytes : Files → List ℕ → List ℕ → Answer → Type 0
OfBytes files second bytes answer =
    ((source : PlainSource) × IsAcceptedModel bytes 0 source × OfLines files second (btor_text source) (lifted_trace source) answer) ⊎ IsRefusal bytes 0 answer

-- the answer for the witness in the second file and the model in the first
abbrev pub IsSmvLift : Files → List ℕ → List ℕ → Answer → Type 0
IsSmvLift files model second answer = ContinuesWith (file_within files model most_smv_bytes smv_too_long) (OfBytes files second) answer

-- ---- the trace by a flat form

-- the printed trace to which a witness is lifted, by a flat form of the model
abbrev pub trace_in : FlatModel → Witness → List ℕ
trace_in f w = run_text (has_inputs (map item_plain f.items)) w.bad (run_lifted_to f w)

-- ---- the properties of the trace

-- The text is the trace of a run of the model with a state for each frame. The last state breaks the invariant of the bad line. The run
-- is the only one to which the words of the witness's inputs are decoded.
pub record LiftsBack (source : PlainSource) (w : Witness) (text : List ℕ) : Type 0 where
  pub run : Run
  pub exact : run ≡ lifted_run source w
  pub written : text ≡ run_text (model_has_inputs source) w.bad run
  pub each_frame : length run.states ≡ length w.frames
  pub breaks : BreaksAt source w.bad (length w.frames - 1) (map given run.states) (map given run.labels)

-- each accepted witness for the text of an accepted model is lifted to such a trace
abbrev pub RunsAreLifted : Type 0
RunsAreLifted = (bytes : List ℕ) (source : PlainSource) → Accepts bytes source → (lines : List Line) → SpellsLines (btor_text source) lines → (text : List ℕ) (w : Witness) → SpellsWitness lines text w → judged_btor lines w Yes
    → LiftsBack source w (lifted_trace source w)

-- the written text is the trace to which the witness in the second file is lifted, for the model in the first
pub record IsLiftedTrace (files : Files) (model second : List ℕ) (before now : Option (List ℕ)) : Type 0 where
  pub bytes : List ℕ
  pub there : file_at files model ≡ Some bytes
  pub source : PlainSource
  pub accepted : Accepts bytes source
  pub lines : List Line
  pub spelled : SpellsLines (btor_text source) lines
  pub text : List ℕ
  pub second_there : file_at files second ≡ Some text
  pub witness : Witness
  pub states : SpellsWitness lines text witness
  pub judged : judged_btor lines witness Yes
  pub trace : List ℕ
  pub written : now ≡ grown before trace
  pub lifts : LiftsBack source witness trace
