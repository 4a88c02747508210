-- What an answer means: its status, what is written for it, and the line that is noted.
use Rattle.std.specs.Prelude.{ℕ, true, false, List, [], codes, decimal}
use Rattle.command_core.specs.declared.status.Status.{Status}
use Rattle.command_core.specs.declared.status.Status.TheVariants as status
use Rattle.command_core.specs.declared.answer.Answer.{Answer}
use Rattle.command_core.specs.declared.answer.Answer.TheVariants.{Usage, Unread, Refused, SecondRefused, No, Done}
use Rattle.command_core.specs.declared.answer.Output.{Output}
use Rattle.command_core.specs.declared.answer.Output.TheVariants.{Text, Yes, Broken, Met}
use Rattle.command_core.specs.Notes.{usage_line, unread_line, refused_line, refused_words, rejected_line, accepted_line}

abbrev pub status_of : Answer → Status
status_of Usage = status.Usage
status_of (Unread name) = status.ReadFault
status_of (Refused refusal) = status.Refused
status_of (SecondRefused refusal) = status.SecondRefused
status_of (No step clause) = status.No
status_of (Done output) = status.Done

-- the whole text of what is written
abbrev pub output_text : Output → List ℕ
output_text (Text text) = text
output_text (Yes bad step) = accepted_line (codes "yes: bad ") (decimal bad) step
output_text (Broken j step) = accepted_line (codes "yes: invariant ") (decimal j) step
output_text (Met symbol step) = accepted_line (codes "yes: query ") symbol step

-- the whole text that is written for an answer
abbrev pub text_of : Answer → List ℕ
text_of (Done output) = output_text output
text_of other = []

-- the line that is noted for an answer
abbrev pub line_of : Answer → List ℕ
line_of Usage = usage_line
line_of (Unread name) = unread_line name
line_of (Refused refusal) = refused_line (refused_words false) refusal
line_of (SecondRefused refusal) = refused_line (refused_words true) refusal
line_of (No step clause) = rejected_line step clause
line_of (Done output) = []
