-- Answers that are a text, or a refusal in its place.
use Rattle.std.specs.Prelude.{ℕ, List, Result, Ok, Err}
use Rattle.text_core.specs.declared.end.End.{End}
use Rattle.text_core.specs.declared.end.End.TheVariants as end
use Rattle.text_core.specs.declared.place.Refusal.{Refusal}
use Rattle.command_core.specs.declared.answer.Answer.{Answer}
use Rattle.command_core.specs.declared.answer.Answer.TheVariants.{Refused, Done}
use Rattle.command_core.specs.declared.answer.Output.TheVariants.{Text}
use Rattle.command_core.specs.declared.answer.Stop.{Stop}
use Rattle.command_core.specs.declared.answer.Stop.TheVariants.{NoMemory}

-- the answer is a text of which the one thing holds, or a refusal of which the other does
abbrev pub IsTextOr : (List ℕ → Type 0) → (Refusal → Type 0) → Answer → Type 0
IsTextOr written refused (Refused refusal) = refused refusal
IsTextOr written refused (Done (Text text)) = written text
IsTextOr written refused other = ⊥

-- a text as the answer, or what is answered in its place
abbrev pub text_answer : Result (List ℕ) End → Result Answer Stop
text_answer (Ok text) = Ok (Done (Text text))
text_answer (Err (end.Bad refusal)) = Ok (Refused refusal)
text_answer (Err end.NoMemory) = Err NoMemory
