-- What `run` promises of each of its calls. `run` has a clause for each promise.
use Rattle.std.specs.Prelude.{◌≡◌, ◌≢◌, ◌⊎◌, ◌≤◌, ℕ, List, None, length}
use Rattle.text_core.specs.declared.place.Refusal.{Refusal}
use Rattle.text_core.specs.declared.verdict.Clause.{Clause}
use Rattle.text_core.specs.declared.verdict.Verdict.TheVariants.{Yes}
use Rattle.smv_text.specs.Tree.{PlainSource}
use Rattle.smv_meaning.specs.declared.value.Run.{Run}
use Rattle.smv_models.specs.Models.{IsAcceptedModel}
use Rattle.smv_commands.specs.Translation.{Accepts, TranslatesTo, btor_text}
use Rattle.smv_commands.specs.Scripts.{moxi_text}
use Rattle.smv_commands.specs.SmvLift.{LiftsBack}
use Rattle.smv_commands.specs.Lowering.{IsAcceptedRun, IsTraceOf, StatesRun}
use Rattle.btor_tree.specs.declared.lines.Line.{Line}
use Rattle.btor_tree.specs.Texts.{SpellsLines}
use Rattle.btor_witness.specs.declared.witness.Witness.{Witness}
use Rattle.btor_witness.specs.Judging.{judged_btor}
use Rattle.btor_witness.specs.Texts.{SpellsWitness}
use Rattle.btor_commands.specs.Importing.{script_text}
use Rattle.btor_commands.specs.Simplifying.{IsSmallerText}
use Rattle.moxi_scripts.specs.Script.{PlainScript}
use Rattle.moxi_commands.specs.Limits.{most_script_bytes}
use Rattle.moxi_commands.specs.Translation.{IsInstantiated, btor_text as script_lines}
use Rattle.moxi_commands.specs.MoxiLift.{LiftsBack as RespondsBack}
use Rattle.generate.specs.Generating.{IsGenerated}
use Rattle.command_core.specs.Answers.{status_of, text_of}
use Rattle.command_core.specs.Notes.{write_fault_line}
use Rattle.command_core.specs.Sinks.{WroteLine}
use Rattle.command_core.specs.declared.answer.Answer.{Answer}
use Rattle.command_core.specs.declared.answer.Answer.TheVariants as answers
use Rattle.command_core.specs.declared.status.Status.{Status}
use Rattle.command_core.specs.declared.status.Status.TheVariants as status
use Rattle.top_call.specs.Call.{Call, Delivers, HasFile, HasReadFault, HasWriteFault}
use Rattle.top_call.specs.Call.{NoFault, NothingFails, OfFiles, OnCommand}
use Rattle.top_call.specs.Call.{Takes, TakesNothing, TakesPrefix, Writes, WritesSome}
use Rattle.top_call.specs.Call as calls
use Rattle.top_call.specs.Outcome.{IsAbsent, IsCutLine, IsLineOf}
use Rattle.top_call.specs.Routes.{KeepsFrames}
use Rattle.top_call.specs.Words.{Answers, HasCorrectOutput}
use Rattle.top_call.specs.declared.words.Command.TheVariants.{SmvToBtor, MoxiToBtor, LiftSmv}
use Rattle.top_call.specs.declared.words.Command.TheVariants.{LiftMoxi, Lower, Generate}

-- ---- what the written text is, where nothing fails

-- `smv2btor`, on a file that parses to an accepted model: `out` takes a text that parses to one
-- list of lines. For each invariant j and each number k, the model has a run of k transitions whose
-- last state breaks invariant j exactly where the lines have frames 0 to k with bad line j true in
-- frame k.
abbrev pub Translates : Call → Type 0
Translates call = OfFiles call (λ files. (model bytes : List ℕ) (source : PlainSource)
    → OnCommand call (SmvToBtor model) → HasFile files model bytes → Accepts bytes source
    → NothingFails call → WritesSome call (TranslatesTo source))

-- `lift-smv`, on an accepted model, and on a witness for the lines of its translation that the
-- judge accepts: `out` takes the trace of a run of the model. The run has a state for each frame of
-- the witness, and its last state breaks the invariant of the witness's bad line.
abbrev pub Lifts : Call → Type 0
Lifts call = OfFiles call (λ files.
    (model second bytes text : List ℕ) (source : PlainSource)
    (lines : List Line) (witness : Witness)
    → OnCommand call (LiftSmv model second)
    → HasFile files model bytes → Accepts bytes source → SpellsLines (btor_text source) lines
    → HasFile files second text → SpellsWitness lines text witness → judged_btor lines witness Yes
    → NothingFails call → WritesSome call (LiftsBack source witness))

-- `lower`, on an accepted model, and on a trace of a run that the judge accepts for invariant j:
-- `out` takes a witness that states the run.
abbrev pub Lowers : Call → Type 0
Lowers call = OfFiles call (λ files.
    (model second bytes trace : List ℕ) (j : ℕ) (source : PlainSource) (run : Run)
    → OnCommand call (Lower model second j)
    → HasFile files model bytes → IsAcceptedModel bytes j source
    → HasFile files second trace → IsTraceOf source trace run → IsAcceptedRun source j run
    → NothingFails call → WritesSome call (StatesRun source j run))

-- `lift-smv`, as above, but on a witness for the lines of the smaller text that `simplify` writes
-- for the model's translation
abbrev pub LiftsSmaller : Call → Type 0
LiftsSmaller call = OfFiles call (λ files.
    (model second bytes shorter text : List ℕ) (source : PlainSource)
    (lines : List Line) (witness : Witness)
    → OnCommand call (LiftSmv model second)
    → HasFile files model bytes → Accepts bytes source
    → IsSmallerText (btor_text source) shorter → SpellsLines shorter lines
    → HasFile files second text → SpellsWitness lines text witness → judged_btor lines witness Yes
    → NothingFails call → WritesSome call (LiftsBack source witness))

-- `lift-moxi`, on a script that has a BTOR2 text, and on a witness for the lines of the smaller
-- text that `simplify` writes for that text, which the judge accepts: `out` takes the response for
-- the witness.
abbrev pub Responds : Call → Type 0
Responds call = OfFiles call (λ files.
    (model second bytes shorter text : List ℕ) (script : PlainScript)
    (lines : List Line) (witness : Witness)
    → OnCommand call (LiftMoxi model second)
    → HasFile files model bytes → IsInstantiated bytes script
    → IsSmallerText (script_lines script) shorter → SpellsLines shorter lines
    → HasFile files second text → SpellsWitness lines text witness → judged_btor lines witness Yes
    → NothingFails call → WritesSome call (RespondsBack script witness))

-- `moxi2btor`, on the script that `smv2moxi` writes for an accepted model, unless the script is too
-- long: `out` takes the text that `smv2btor` writes for the model.
abbrev pub RoutesAgree : Call → Type 0
RoutesAgree call = OfFiles call (λ files. (model bytes : List ℕ) (source : PlainSource)
    → OnCommand call (MoxiToBtor model) → Accepts bytes source
    → HasFile files model (moxi_text source) → length (moxi_text source) ≤ most_script_bytes
    → NothingFails call → Writes call (btor_text source))

-- `moxi2btor`, on the script that `btor2moxi` writes for a list of lines, where the script has a
-- BTOR2 text: `out` takes a text that parses to lines in which each bad line is true in the last of
-- frames 0 to k for the same numbers k as in the first lines.
abbrev pub Returns : Call → Type 0
Returns call = OfFiles call (λ files.
    (model bytes : List ℕ) (lines : List Line) (script : PlainScript)
    → OnCommand call (MoxiToBtor model) → SpellsLines bytes lines
    → HasFile files model (script_text lines) → IsInstantiated (script_text lines) script
    → NothingFails call → WritesSome call (KeepsFrames lines))

-- `generate` with a number of cells, whatever the shelf exposes. Either the call is out of memory.
-- Or a stream failed, and `out` took a prefix of the defined text. Or the status, the text and the
-- line are those of the answer defined for the generated model and witness with this many cells.
abbrev pub Generates : Call → Type 0
Generates call = (n : ℕ) → OnCommand call (Generate n) → (call.status ≡ status.NoMemory)
    ⊎ (((call.status ≡ status.WriteFault)
    × ((answer : Answer) → IsGenerated n answer → TakesPrefix call.out (text_of answer)))
    ⊎ ((answer : Answer) × IsGenerated n answer × Delivers call answer))

-- With status `Done`, the text that `out` took has the properties that its command promises.
abbrev pub IsCorrect : Call → Type 0
IsCorrect call = call.status ≡ status.Done → OfFiles call (λ files.
    HasCorrectOutput call.command files call.out.taken call.out.taken_after)

-- ---- what a status says

-- With status `Done`, the defined answer is a text, and `out` took it.
abbrev pub WritesDefined : Call → Type 0
WritesDefined call = call.status ≡ status.Done → OfFiles call (λ files. (answer : Answer)
    × Answers call.command files answer × (status_of answer ≡ status.Done)
    × Takes call.out (text_of answer))

-- With status `No`, the defined answer is that the judge rejects the stated run.
abbrev pub Rejects : Call → Type 0
Rejects call = call.status ≡ status.No → OfFiles call (λ files.
    (step : ℕ) × (clause : Clause) × Answers call.command files (answers.No step clause))

-- With status `Refused`, the defined answer is that the first file is refused.
abbrev pub Refuses : Call → Type 0
Refuses call = call.status ≡ status.Refused → OfFiles call (λ files.
    (refusal : Refusal) × Answers call.command files (answers.Refused refusal))

-- With status `SecondRefused`, the defined answer is that the second file is refused.
abbrev pub RefusesSecond : Call → Type 0
RefusesSecond call = call.status ≡ status.SecondRefused → OfFiles call (λ files.
    (refusal : Refusal) × Answers call.command files (answers.SecondRefused refusal))

-- With status `Usage`, the words give no command.
abbrev pub SaysUsage : Call → Type 0
SaysUsage call = call.status ≡ status.Usage → call.command ≡ None

-- Where the words give no command, the status is `Usage`, unless the call fails.
abbrev pub NotesUsage : Call → Type 0
NotesUsage call = call.command ≡ None
    → (call.status ≡ status.Usage)
    ⊎ (call.status ≡ status.WriteFault) ⊎ (call.status ≡ status.NoMemory)

-- Where the words give no command, `out` takes nothing.
abbrev pub WritesNoText : Call → Type 0
WritesNoText call = call.command ≡ None → TakesNothing call.out

-- With status `ReadFault`, a fault of the shelf was counted, or a file of the command is missing.
abbrev pub ReadFails : Call → Type 0
ReadFails call = call.status ≡ status.ReadFault
    → HasReadFault call.shelf ⊎ IsAbsent call.shelf.files call.command

-- With status `WriteFault`, a fault of `out` or of `notes` was counted.
abbrev pub WriteFails : Call → Type 0
WriteFails call = call.status ≡ status.WriteFault
    → HasWriteFault call.out ⊎ HasWriteFault call.notes

-- ---- what the streams took

-- Unless the status is `WriteFault`, `notes` took the line of the status.
abbrev pub NotesLine : Call → Type 0
NotesLine call = call.status ≢ status.WriteFault → (line : List ℕ)
    × IsLineOf call.shelf.files call.command (HasReadFault call.shelf) call.status line
    × Takes call.notes line

-- With status `WriteFault`, one of two streams failed. Either `out` did, and `notes` took the line
-- that says so, or a prefix of it where `notes` failed too. Or `notes` did, and took a prefix of
-- the line of another status, and `out` took nothing.
abbrev pub NotesFault : Call → Type 0
NotesFault call = call.status ≡ status.WriteFault
    → (HasWriteFault call.out × WroteLine call.notes.taken call.notes.taken_after
    call.notes.faults call.notes.faults_after write_fault_line)
    ⊎ (HasWriteFault call.notes × TakesNothing call.out
    × IsCutLine call.shelf.files call.command (HasReadFault call.shelf)
    call.notes.taken call.notes.taken_after)

-- With another status than `Done` and `WriteFault`, `out` took nothing.
abbrev pub WritesNothing : Call → Type 0
WritesNothing call =
    call.status ≢ status.Done → call.status ≢ status.WriteFault → TakesNothing call.out

-- With status `WriteFault`, `out` took a prefix of the defined text.
abbrev pub WritesPrefix : Call → Type 0
WritesPrefix call = call.status ≡ status.WriteFault → OfFiles call (λ files. (answer : Answer)
    → Answers call.command files answer → TakesPrefix call.out (text_of answer))

-- ---- what a fault leads to

-- the statuses of a call that failed
abbrev pub IsFault : Status → Type 0
IsFault s = (s ≡ status.ReadFault) ⊎ (s ≡ status.WriteFault) ⊎ (s ≡ status.NoMemory)

-- Where a file of the command is missing, the call fails.
abbrev pub StopsAbsent : Call → Type 0
StopsAbsent call = IsAbsent call.shelf.files call.command → IsFault call.status

-- Where no fault was counted, the status, the text and the line are those of the defined answer,
-- unless the call is out of memory.
abbrev pub IsComplete : Call → Type 0
IsComplete call = OfFiles call (λ files. NoFault call → (answer : Answer)
    → Answers call.command files answer → Delivers call answer ⊎ (call.status ≡ status.NoMemory))

-- ---- the files

-- Out of memory, `judge-btor` has not opened its second file.
abbrev pub OpensNoSecond : Call → Type 0
OpensNoSecond call = call.status ≡ status.NoMemory → calls.OpensNoSecond call.shelf call.command

-- The file that was opened last is one that the command names, or the one from before.
abbrev pub OpensItsFiles : Call → Type 0
OpensItsFiles call = calls.OpensItsFiles call.shelf call.command
