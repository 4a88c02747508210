-- What is in place of a file that isn't read whole.
use Rattle.std.specs.Prelude.{◌≡◌, ◌⊎◌, ℕ, List, length, nat_lt, Option, Some, None, Result, Ok, Err, if◌then◌else◌}
use Rattle.text_core.specs.Outside.{Files, file_at, IsMissing, IsLonger}
use Rattle.command_core.specs.declared.status.Status.TheVariants.{ReadFault}
use Rattle.command_core.specs.declared.answer.Answer.{Answer}
use Rattle.command_core.specs.declared.answer.Answer.TheVariants.{Usage, Unread}
use Rattle.command_core.specs.declared.answer.Stop.{Stop}
use Rattle.command_core.specs.declared.answer.Stop.TheVariants.{Answered, NoMemory}
use Rattle.command_core.specs.Answers.{status_of}

-- a file's bytes, or the answer in their place: that it isn't there, or what is answered to a longer one
abbrev pub within_limit : Option (List ℕ) → List ℕ → ℕ → Answer → Result (List ℕ) Answer
within_limit None name limit longer = Err (Unread name)
within_limit (Some bytes) name limit longer = if nat_lt limit (length bytes) then Err longer else Ok bytes

-- the bytes of the file with this name, or the answer in their place
abbrev pub file_within : Files → List ℕ → ℕ → Answer → Result (List ℕ) Answer
file_within files name limit longer = within_limit (file_at files name) name limit longer

-- goes on with a file's bytes, or gives the answer in their place
abbrev pub ContinuesWith : Result (List ℕ) Answer → (List ℕ → Answer → Type 0) → Answer → Type 0
ContinuesWith (Ok bytes) next answer = next bytes answer
ContinuesWith (Err instead) next answer = answer ≡ instead

-- when a call may give this answer in place of a file's bytes, where it may say that the count grew
abbrev pub Instead : Option Files → Type 0 → List ℕ → ℕ → Answer → Answer → Type 0
Instead files faulted name limit longer answer =
    ((answer ≡ Unread name) × (faulted ⊎ IsMissing files name)) ⊎ ((answer ≡ longer) × IsLonger files name limit)

-- a step stops for an answer of which this holds, or out of memory
abbrev pub StopsWith : (Answer → Type 0) → Stop → Type 0
StopsWith P (Answered answer) = P answer
StopsWith P NoMemory = Unit {0}

-- where a step stops out of memory, this holds
abbrev pub OnNoMemory : Type 0 → Stop → Type 0
OnNoMemory P (Answered answer) = Unit {0}
OnNoMemory P NoMemory = P

-- the answer says neither that the words are no command nor that a file was not read
abbrev pub SaysRead : Answer → Type 0
SaysRead Usage = ⊥
SaysRead (Unread name) = ⊥
SaysRead other = Unit {0}

-- the answer is that a file was not read
abbrev pub SaysUnread : Answer → Type 0
SaysUnread answer = status_of answer ≡ ReadFault

-- a step stops since a file was not read, or out of memory
abbrev pub StopsUnread : Stop → Type 0
StopsUnread stop = StopsWith SaysUnread stop
