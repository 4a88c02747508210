-- The answer of the judge of traces.
use Rattle.std.specs.Prelude.{ℕ, ◌-◌, List, length}
use Rattle.text_core.specs.declared.verdict.Verdict.{Verdict}
use Rattle.text_core.specs.declared.verdict.Verdict.TheVariants as verdict
use Rattle.text_core.specs.Outside.{Files}
use Rattle.smv_text.specs.Tree.{PlainSource}
use Rattle.smv_meaning.specs.declared.value.Run.{Run}
use Rattle.command_core.specs.declared.answer.Answer.{Answer}
use Rattle.command_core.specs.declared.answer.Answer.TheVariants.{No, Done}
use Rattle.command_core.specs.declared.answer.Output.TheVariants as output
use Rattle.smv_commands.specs.Traces.{IsAnswerToTrace}

-- the answer for a verdict: the invariant and the last step, or the step and the clause that fails
abbrev pub verdict_answer : PlainSource → ℕ → Run → Verdict → Answer
verdict_answer source j run verdict.Yes = Done (output.Broken j (length run.states - 1))
verdict_answer source j run (verdict.No step clause) = No step clause

-- the verdict on the trace in the second file, for the model in the first
abbrev pub IsSmvJudgement : Files → List ℕ → List ℕ → ℕ → Answer → Type 0
IsSmvJudgement files model second j answer = IsAnswerToTrace verdict_answer files model second j answer
