-- The answer for a trace of an SMV model, by the verdict on the run that it states.
use Rattle.std.specs.Prelude.{◌≡◌, ◌⊎◌, ℕ, List, Result, Ok, Err}
use Rattle.text_core.specs.declared.place.Kind.TheVariants.{Y}
use Rattle.text_core.specs.declared.place.Refusal.{Refusal}
use Rattle.text_core.specs.declared.verdict.Verdict.{Verdict}
use Rattle.text_core.specs.Outside.{Files}
use Rattle.text_core.specs.Places.{start}
use Rattle.smv_text.specs.Tree.{PlainSource}
use Rattle.smv_meaning.specs.declared.value.Run.{Run}
use Rattle.smv_flatten.specs.FlatModel.{FlatModel, IsFormOf}
use Rattle.smv_trace.specs.Texts.{trace_of}
use Rattle.trace_lower.specs.Laws.{declared_by}
use Rattle.trace_lower.specs.Lowered.{verdict_on}
use Rattle.command_core.specs.declared.answer.Answer.{Answer}
use Rattle.command_core.specs.declared.answer.Answer.TheVariants.{SecondRefused}
use Rattle.command_core.specs.Reading.{ContinuesWith, SaysRead, file_within}
use Rattle.smv_models.specs.Limits.{most_smv_bytes}
use Rattle.smv_commands.specs.Limits.{most_trace_bytes}
use Rattle.smv_models.specs.Models.{IsAcceptedModel, IsRefusal, smv_too_long}

-- the answer for a trace that is too long
abbrev pub trace_too_long : Answer
trace_too_long = SecondRefused (record { kind = Y 5; place = start })

module _ (answer_to : PlainSource → ℕ → Run → Verdict → Answer) where
  -- the answer for the verdict on the run that a trace states, or the trace's refusal
  abbrev pub of_trace : PlainSource → ℕ → Result Run Refusal → Answer
  of_trace source j (Ok run) = answer_to source j run (verdict_on source j run)
  of_trace source j (Err refusal) = SecondRefused refusal

  abbrev pub OfText : PlainSource → ℕ → List ℕ → Answer → Type 0
  OfText source j text answer = answer ≡ of_trace source j (trace_of (declared_by source) text)

  -- the answer for the trace in the second file, for the model
  abbrev pub OfModel : Files → List ℕ → ℕ → PlainSource → Answer → Type 0
  OfModel files second j source answer = ContinuesWith (file_within files second most_trace_bytes trace_too_long) (OfText source j) answer

  -- the answer for the trace in the second file, for the model that the bytes spell, or the refusal of the bytes
  abbrev pub OfBytes : Files → List ℕ → ℕ → List ℕ → Answer → Type 0
  OfBytes files second j bytes answer = ((source : PlainSource) × IsAcceptedModel bytes j source × OfModel files second j source answer) ⊎ IsRefusal bytes j answer

  -- the answer for the trace in the second file, for the model in the first
  abbrev pub IsAnswerToTrace : Files → List ℕ → List ℕ → ℕ → Answer → Type 0
  IsAnswerToTrace files model second j answer = ContinuesWith (file_within files model most_smv_bytes smv_too_long) (OfBytes files second j) answer

  -- This is answered to a trace for each model of which this is the flat form. It says that the trace was read.
  abbrev pub OfForm : FlatModel → ℕ → List ℕ → Answer → Type 0
  OfForm f j text answer = SaysRead answer × ((source : PlainSource) → IsFormOf source f → OfText source j text answer)

  -- this is answered to a run for each model of which this is the flat form
  abbrev pub IsRunAnswer : FlatModel → ℕ → Run → Answer → Type 0
  IsRunAnswer f j run answer = SaysRead answer × ((source : PlainSource) → IsFormOf source f → answer ≡ answer_to source j run (verdict_on source j run))
