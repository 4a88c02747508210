-- The answer of the judge of responses.
use Rattle.std.specs.Prelude.{◌≡◌, ◌⊎◌, ℕ, ◌-◌, List, length, Some, None, Result, Ok, Err}
use Rattle.text_core.specs.declared.place.Kind.TheVariants.{Y}
use Rattle.text_core.specs.declared.place.Refusal.{Refusal}
use Rattle.text_core.specs.declared.verdict.Verdict.{Verdict}
use Rattle.text_core.specs.declared.verdict.Verdict.TheVariants as verdict
use Rattle.text_core.specs.Outside.{Files}
use Rattle.text_core.specs.Places.{start}
use Rattle.moxi_scripts.specs.Script.{PlainScript}
use Rattle.moxi_scripts.specs.Asking.{query_at}
use Rattle.moxi_scripts.specs.Meeting.{judged_moxi}
use Rattle.moxi_flat.specs.FlatMeeting.{hidden_values}
use Rattle.moxi_flat.specs.Limits.{flat_refusal}
use Rattle.moxi_trace.specs.declared.point.Answered.{Answered}
use Rattle.moxi_trace.specs.Responses.{response_of}
use Rattle.moxi_trace.specs.Texts.{symbol_text}
use Rattle.moxi_responses.specs.Declaring.{declared_of}
use Rattle.command_core.specs.declared.answer.Answer.{Answer}
use Rattle.command_core.specs.declared.answer.Answer.TheVariants.{Refused, SecondRefused, No, Done}
use Rattle.command_core.specs.declared.answer.Output.TheVariants as output
use Rattle.command_core.specs.Reading.{ContinuesWith, file_within}
use Rattle.moxi_commands.specs.Limits.{most_script_bytes, most_response_bytes}
use Rattle.moxi_commands.specs.Scripts.{IsRefusal, IsScriptText, script_too_long}
use Rattle.moxi_scripts.specs.Behaviour.{trace_of}

-- the answer for a response that is too long
abbrev pub response_too_long : Answer
response_too_long = SecondRefused (record { kind = Y 5; place = start })

-- the answer that the stated trace meets its query: the query's name, printed as a symbol, and the last step
abbrev pub met_answer : PlainScript → Answered → Answer
met_answer s r = Done (output.Met (symbol_text (query_at s.check.queries r.query).name) (length r.trace - 1))

-- the answer for a verdict: that the query is met, or the step and the clause that fails
abbrev pub verdict_answer : PlainScript → Answered → Verdict → Answer
verdict_answer s r verdict.Yes = met_answer s r
verdict_answer s r (verdict.No step clause) = No step clause

-- the verdict on the query and the trace that a response states
abbrev pub stated_answer : PlainScript → Answered → Answer
stated_answer s r =
    verdict_answer s r (judged_moxi s (query_at s.check.queries r.query) (length r.trace - 1) (trace_of r.trace) (hidden_values s (trace_of r.trace)))

-- the same, or the response's refusal
abbrev pub of_response : PlainScript → Result Answered Refusal → Answer
of_response s (Ok r) = stated_answer s r
of_response s (Err refusal) = SecondRefused refusal

abbrev pub OfText : PlainScript → List ℕ → Answer → Type 0
OfText s text answer = answer ≡ of_response s (response_of (declared_of s) text)

-- the verdict on the response in the second file, for the script
abbrev pub OfScript : Files → List ℕ → PlainScript → Answer → Type 0
OfScript files second s answer = ContinuesWith (file_within files second most_response_bytes response_too_long) (OfText s) answer

-- the verdict on the response in the second file, for the script that the bytes spell, or the refusal of the bytes
abbrev pub OfBytes : Files → List ℕ → List ℕ → Answer → Type 0
OfBytes files second bytes answer = ((s : PlainScript) × IsScriptText bytes s × (flat_refusal s ≡ None) × OfScript files second s answer) ⊎ IsRefusal bytes answer

-- the verdict on the response in the second file, for the script in the first
abbrev pub IsMoxiJudgement : Files → List ℕ → List ℕ → Answer → Type 0
IsMoxiJudgement files model second answer = ContinuesWith (file_within files model most_script_bytes script_too_long) (OfBytes files second) answer

-- the verdict on the response in the second file, for the script, or the refusal of the system that its check instantiates
abbrev pub OfChecks : Files → List ℕ → PlainScript → Answer → Type 0
OfChecks files second s answer = ((flat_refusal s ≡ None) × OfScript files second s answer) ⊎ ((refusal : Refusal) × (flat_refusal s ≡ Some refusal) × (answer ≡ Refused refusal))
