-- One call of `run`: the command that it was given, and what it did to the shelf and to the two
-- streams.
--
-- A field that ends in `_after` is the value when the call has returned. The field without that
-- ending is the value before the call.
use Rattle.std.specs.Prelude.{◌≡◌, ◌≢◌, ℕ, List, Option, Some, IfSome, String, Vec, map}
use Rattle.std.specs.Prelude.{string_bytes}
use Rattle.std.specs.Borrow.{Bor, MutBor}
use Rattle.std.specs.declared.alloc.Global.{Global}
use denote.Triple.Both.{Both}
use Rattle.text_core.specs.Outside.{Files, HasNewFault, file_at, grown}
use Rattle.text_core.specs.declared.outside.Shelf as Shelf
use Rattle.text_core.specs.declared.outside.Sink as Sink
use Rattle.command_core.specs.Answers.{line_of, status_of, text_of}
use Rattle.command_core.specs.Sinks.{IsPart}
use Rattle.command_core.specs.declared.answer.Answer.{Answer}
use Rattle.command_core.specs.declared.status.Status.{Status}
use Rattle.command_core.specs.declared.status.Status.TheVariants.{Done, NoMemory}
use Rattle.top_call.specs.Outcome.{BeginsFor, MayAnswer}
use Rattle.top_call.specs.Words.{BeginsNoSecond, command_of}
use Rattle.top_call.specs.declared.words.Command.{Command}

-- ---- the shelf, the streams and the call

pub record ShelfUse : Type 0 where
  -- the files, where the shelf exposes them
  pub files : Option Files
  pub files_after : Option Files
  -- the name of the file that was opened last
  pub begun : Option (List ℕ)
  pub begun_after : Option (List ℕ)
  -- the number of faults so far
  pub faults : ℕ
  pub faults_after : ℕ

pub record SinkUse : Type 0 where
  -- the bytes that the stream has taken, where it exposes them
  pub taken : Option (List ℕ)
  pub taken_after : Option (List ℕ)
  -- the number of faults so far
  pub faults : ℕ
  pub faults_after : ℕ

pub record Call : Type 0 where
  -- the command that the words give, if they give one
  pub command : Option Command
  pub shelf : ShelfUse
  -- the stream for the answer's text
  pub out : SinkUse
  -- the stream for the line of the status
  pub notes : SinkUse
  -- the status that `run` returns
  pub status : Status

-- ---- how the parameters of a function make them

-- a parameter of type `&mut T`: `entry.now` is what it points to before the call, `exit.now` after
-- the call
abbrev pub Changes : Type 0 → Type 0
Changes T = Both (MutBor T) (MutBor T)

abbrev pub Words : Type 0
Words = Vec (String Global) Global

-- the command that the words give, if they give one
abbrev pub command_in : Words → Option Command
command_in words = command_of (map string_bytes words.items)

-- the members of the trait `Shelf` at its two values
abbrev pub shelf_use : {F : Type 0} → Shelf.Ghosts F → Changes F → ShelfUse
shelf_use member shelf = record {
  files = member.files shelf.entry.now;
  files_after = member.files shelf.exit.now;
  begun = member.begun shelf.entry.now;
  begun_after = member.begun shelf.exit.now;
  faults = member.faults shelf.entry.now;
  faults_after = member.faults shelf.exit.now;
}

-- the members of the trait `Sink` at its two values
abbrev pub sink_use : {K : Type 0} → Sink.Ghosts K → Changes K → SinkUse
sink_use member sink = record {
  taken = member.taken sink.entry.now;
  taken_after = member.taken sink.exit.now;
  faults = member.faults sink.entry.now;
  faults_after = member.faults sink.exit.now;
}

-- the call of `run` with these parameters and this result
abbrev pub call : {F K N : Type 0} → Shelf.Ghosts F → Sink.Ghosts K → Sink.Ghosts N
    → Both (Bor Words) (Bor Words) → Changes F → Changes K → Changes N → Status → Call
call of_shelf of_out of_notes words shelf out notes result = record {
  command = command_in words.entry.now;
  shelf = shelf_use of_shelf shelf;
  out = sink_use of_out out;
  notes = sink_use of_notes notes;
  status = result;
}

-- ---- what is said of a shelf

-- a fault of the shelf was counted
abbrev pub HasReadFault : ShelfUse → Type 0
HasReadFault shelf = HasNewFault shelf.faults shelf.faults_after

-- An answer that may be returned for a command. It is the answer that the command and the exposed
-- files define. Where a fault was counted, it may instead be that a file of the command was not
-- read.
abbrev pub MayReturn : ShelfUse → Option Command → Answer → Type 0
MayReturn shelf command = MayAnswer shelf.files command (HasReadFault shelf)

-- where the files are exposed, the file that was opened last is one that the command names, or the
-- one from before
abbrev pub OpensItsFiles : ShelfUse → Option Command → Type 0
OpensItsFiles shelf command = BeginsFor shelf.files shelf.begun shelf.begun_after command

-- where the command is `judge-btor` and the files are exposed, its second file was not opened
abbrev pub OpensNoSecond : ShelfUse → Option Command → Type 0
OpensNoSecond shelf command = BeginsNoSecond shelf.files shelf.begun shelf.begun_after command

-- ---- what is said of a stream

-- a fault of the stream was counted
abbrev pub HasWriteFault : SinkUse → Type 0
HasWriteFault sink = HasNewFault sink.faults sink.faults_after

-- the bytes that the stream has taken grew by these and no others
abbrev pub Takes : SinkUse → List ℕ → Type 0
Takes sink bytes = sink.taken_after ≡ grown sink.taken bytes

-- they grew by a prefix of these
abbrev pub TakesPrefix : SinkUse → List ℕ → Type 0
TakesPrefix sink bytes = IsPart sink.taken sink.taken_after bytes

abbrev pub TakesNothing : SinkUse → Type 0
TakesNothing sink = sink.taken_after ≡ sink.taken

-- ---- what is said of a call

-- no fault was counted, neither of the shelf nor of a stream
abbrev pub NoFault : Call → Type 0
NoFault call = ¬ HasReadFault call.shelf × ¬ HasWriteFault call.out × ¬ HasWriteFault call.notes

-- no fault was counted, and the call isn't out of memory
abbrev pub NothingFails : Call → Type 0
NothingFails call = NoFault call × (call.status ≢ NoMemory)

-- the words give this command
abbrev pub OnCommand : Call → Command → Type 0
OnCommand call command = call.command ≡ Some command

-- where the shelf exposes its files, this holds of them
abbrev pub OfFiles : Call → (Files → Type 0) → Type 0
OfFiles call P = IfSome call.shelf.files P

-- the file with this name has these bytes
abbrev pub HasFile : Files → List ℕ → List ℕ → Type 0
HasFile files name bytes = file_at files name ≡ Some bytes

-- the status is `Done`, and `out` took this text
abbrev pub Writes : Call → List ℕ → Type 0
Writes call text = (call.status ≡ Done) × Takes call.out text

-- the status is `Done`, and `out` took a text with this property
abbrev pub WritesSome : Call → (List ℕ → Type 0) → Type 0
WritesSome call P = (call.status ≡ Done) × ((text : List ℕ) × Takes call.out text × P text)

-- the status is that of the answer, `out` took its text, and `notes` took its line
abbrev pub Delivers : Call → Answer → Type 0
Delivers call answer =
    (call.status ≡ status_of answer)
    × Takes call.out (text_of answer) × Takes call.notes (line_of answer)
