-- The answer that words and files define, and when a call may return an answer.
use Rattle.std.specs.Prelude.{◌≡◌, ◌≢◌, ℕ, true, false, List, [], Option, Some, None, IfSome}
use Rattle.text_core.specs.Outside.{Files}
use Rattle.text_core.specs.declared.place.Refusal.{Refusal}
use Rattle.text_core.specs.declared.verdict.Clause.{Clause}
use Rattle.command_core.specs.declared.status.Status.{Status}
use Rattle.command_core.specs.declared.status.Status.TheVariants as status
use Rattle.command_core.specs.declared.answer.Answer.{Answer}
use Rattle.command_core.specs.declared.answer.Answer.TheVariants.{Usage, Unread, Refused, SecondRefused, No}
use Rattle.command_core.specs.Giving.{BeginsAmong, IfExposed, MayGive}
use Rattle.top_call.specs.declared.words.Command.{Command}
use Rattle.top_call.specs.Words.{Answers, command_of, files_of, named_files}
use Rattle.command_core.specs.Notes.{rejected_line, no_memory_line, refused_line, refused_words, unread_line, usage_line, write_fault_line}
use Rattle.command_core.specs.Sinks.{IsPart}

-- the answer that words and files define
abbrev pub outcome_of : List (List ℕ) → Files → Answer → Type 0
outcome_of words files answer = Answers (command_of words) files answer

-- the files are exposed, and the defined answer is that a file is missing: the model, or for an accepted model the second file
abbrev pub IsAbsent : Option Files → Option Command → Type 0
IsAbsent files command = IfExposed files (λ fs. (name : List ℕ) × Answers command fs (Unread name))

-- When a call may return an answer for words. Where they are no command, it returns that, whatever the shelf exposes. For a
-- command it returns the defined answer, where the files are exposed. Where a fault was counted, it may also return that a file
-- of the command was not read.
abbrev pub MayAnswer : Option Files → Option Command → Type 0 → Answer → Type 0
MayAnswer files None faulted answer = answer ≡ Usage
MayAnswer files (Some command) faulted answer = MayGive files (files_of command) (λ fs given. Answers (Some command) fs given) faulted answer

-- where the files are exposed, the open file is one of the command, or the one from before
abbrev pub BeginsFor : Option Files → Option (List ℕ) → Option (List ℕ) → Option Command → Type 0
BeginsFor files before now command = BeginsAmong files before now (named_files command)

-- The line noted for this status. Where the files are exposed, what it says of the model, the second file or the stated run is
-- as defined.
abbrev pub IsLineOf : Option Files → Option Command → Type 0 → Status → List ℕ → Type 0
IsLineOf files command faulted status.Done line = line ≡ []
IsLineOf files command faulted status.No line = (step : ℕ) × (clause : Clause) × IfSome files (λ fs. Answers command fs (No step clause)) × (line ≡ rejected_line step clause)
IsLineOf files command faulted status.Refused line = (refusal : Refusal) × IfSome files (λ fs. Answers command fs (Refused refusal)) × (line ≡ refused_line (refused_words false) refusal)
IsLineOf files command faulted status.Usage line = (command ≡ None) × (line ≡ usage_line)
IsLineOf files command faulted status.ReadFault line = (name : List ℕ) × MayAnswer files command faulted (Unread name) × (line ≡ unread_line name)
IsLineOf files command faulted status.WriteFault line = line ≡ write_fault_line
IsLineOf files command faulted status.NoMemory line = line ≡ no_memory_line
IsLineOf files command faulted status.SecondRefused line =
    (refusal : Refusal) × IfSome files (λ fs. Answers command fs (SecondRefused refusal)) × (line ≡ refused_line (refused_words true) refusal)

-- a prefix was noted of the line of some status other than Done and WriteFault
pub record IsCutLine (files : Option Files) (command : Option Command) (faulted : Type 0) (before now : Option (List ℕ)) : Type 0 where
  pub ending : Status
  pub notes : ending ≢ status.Done
  pub differs : ending ≢ status.WriteFault
  pub line : List ℕ
  pub is_line : IsLineOf files command faulted ending line
  pub front : IsPart before now line
