-- What a verdict on a response says.
use Rattle.std.proofs.Common.{ℕ, List, Result, Ok, Err, sym, length, subst}
use Rattle.text_core.specs.declared.place.Refusal.{Refusal}
use Rattle.text_core.specs.declared.verdict.Verdict.{Verdict}
use Rattle.text_core.specs.declared.verdict.Verdict.TheVariants.{Yes, No}
use Rattle.std.specs.Prelude.{◌-◌}
use Rattle.moxi_scripts.specs.Script.{PlainScript}
use Rattle.moxi_scripts.specs.Asking.{query_at}
use Rattle.moxi_scripts.specs.Meeting.{judged_moxi}
use Rattle.moxi_flat.specs.FlatMeeting.{hidden_values}
use Rattle.moxi_trace.specs.declared.point.Answered.{Answered}
use Rattle.moxi_trace.specs.Responses.{response_of}
use Rattle.moxi_responses.specs.Declaring.{declared_of}
use Rattle.command_core.specs.declared.answer.Answer.{Answer}
use Rattle.command_core.specs.Reading.{SaysRead}
use Rattle.moxi_commands.specs.Judgement.{OfText, of_response, verdict_answer}
use Rattle.moxi_scripts.specs.Behaviour.{trace_of}

answer_says : (s : PlainScript) (r : Answered) (v : Verdict) → SaysRead (verdict_answer s r v)
answer_says s r Yes = tt
answer_says s r (No step clause) = tt

response_says : (s : PlainScript) (read : Result Answered Refusal) → SaysRead (of_response s read)
response_says s (Ok r) = answer_says s r (judged_moxi s (query_at s.check.queries r.query) (length r.trace - 1) (trace_of r.trace) (hidden_values s (trace_of r.trace)))
response_says s (Err refusal) = tt

-- a verdict on a response says neither that the words are no command nor that a file was not read
pub verdict_says : (s : PlainScript) (text : List ℕ) (a : Answer) → OfText s text a → SaysRead a
verdict_says s text a h = subst SaysRead (sym h) (response_says s (response_of (declared_of s) text))
