-- The witness written for an accepted trace of an SMV model, and its properties (BTOR2, CAV 2018, witness format).
use Rattle.std.specs.Prelude.{◌≡◌, ℕ, List, Option, Some, Ok}
use Rattle.text_core.specs.declared.verdict.Verdict.{Verdict}
use Rattle.text_core.specs.declared.verdict.Verdict.TheVariants as verdict
use Rattle.text_core.specs.Outside.{Files, file_at, grown}
use Rattle.smv_text.specs.Tree.{PlainSource}
use Rattle.smv_meaning.specs.declared.value.Run.{Run}
use Rattle.smv_trace.specs.Texts.{trace_of}
use Rattle.btor_tree.specs.declared.lines.Line.{Line}
use Rattle.btor_tree.specs.Texts.{SpellsLines}
use Rattle.btor_witness.specs.declared.witness.Witness.{Witness}
use Rattle.btor_witness.specs.Judging.{judged_btor}
use Rattle.btor_witness.specs.Printing.{IsWithinLimits, printed}
use Rattle.btor_witness.specs.Texts.{SpellsWitness}
use Rattle.trace_lower.specs.Lowered.{lowered, verdict_on}
use Rattle.witness_lift.specs.LineLaws.{model_lines}
use Rattle.command_core.specs.declared.answer.Answer.{Answer}
use Rattle.command_core.specs.declared.answer.Answer.TheVariants.{No, Done}
use Rattle.command_core.specs.declared.answer.Output.TheVariants.{Text}
use Rattle.smv_models.specs.Models.{IsAcceptedModel}
use Rattle.smv_commands.specs.SmvLift.{lifted_run}
use Rattle.smv_commands.specs.Traces.{IsAnswerToTrace}
use Rattle.trace_lower.specs.Laws.{declared_by}
use Rattle.smv_commands.specs.Translation.{btor_text}

-- the trace states this run of the model
abbrev pub IsTraceOf : PlainSource → List ℕ → Run → Type 0
IsTraceOf source trace run = trace_of (declared_by source) trace ≡ Ok run

-- the judge accepts the run for this invariant
abbrev pub IsAcceptedRun : PlainSource → ℕ → Run → Type 0
IsAcceptedRun source j run = verdict_on source j run ≡ verdict.Yes

-- the printed witness that states the run
unfoldable pub lowered_text : PlainSource → ℕ → Run → List ℕ
lowered_text source j run = printed (model_lines source) (lowered source j run)

-- the answer for a verdict: the witness, or the step and the clause that fails
abbrev pub lowered_answer : PlainSource → ℕ → Run → Verdict → Answer
lowered_answer source j run verdict.Yes = Done (Text (lowered_text source j run))
lowered_answer source j run (verdict.No step clause) = No step clause

-- the witness for the trace in the second file, for the model in the first
abbrev pub IsLowering : Files → List ℕ → List ℕ → ℕ → Answer → Type 0
IsLowering files model second j answer = IsAnswerToTrace lowered_answer files model second j answer

-- ---- the properties of the witness

-- The text is the printed witness that states the run, for the bad line of invariant j. The judge of witnesses accepts it for all
-- lines that the model's BTOR2 text spells. The text parses to this witness where it is within the limits of witnesses. The witness
-- is lifted to the same run.
pub record StatesRun (source : PlainSource) (j : ℕ) (run : Run) (text : List ℕ) : Type 0 where
  pub witness : Witness
  pub exact : witness ≡ lowered source j run
  pub bad : witness.bad ≡ j
  pub written : text ≡ printed (model_lines source) witness
  pub accepted : (lines : List Line) → SpellsLines (btor_text source) lines → judged_btor lines witness verdict.Yes
  pub read : (lines : List Line) → SpellsLines (btor_text source) lines → IsWithinLimits lines witness → SpellsWitness lines text witness
  pub lifted : lifted_run source witness ≡ run

-- for each accepted trace of an accepted model, the written text states its run
abbrev pub RunsAreLowered : Type 0
RunsAreLowered = (bytes : List ℕ) (j : ℕ) (source : PlainSource) → IsAcceptedModel bytes j source → (trace : List ℕ) (run : Run) → IsTraceOf source trace run → IsAcceptedRun source j run
    → StatesRun source j run (lowered_text source j run)

-- the written text is the witness of the run that the trace in the second file states, for the model in the first
pub record IsLoweredTrace (files : Files) (model second : List ℕ) (j : ℕ) (before now : Option (List ℕ)) : Type 0 where
  pub bytes : List ℕ
  pub there : file_at files model ≡ Some bytes
  pub source : PlainSource
  pub accepted : IsAcceptedModel bytes j source
  pub trace : List ℕ
  pub second_there : file_at files second ≡ Some trace
  pub run : Run
  pub states : IsTraceOf source trace run
  pub judged : IsAcceptedRun source j run
  pub text : List ℕ
  pub written : now ≡ grown before text
  pub stated : StatesRun source j run text
