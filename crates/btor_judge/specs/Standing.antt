-- What a reader holds of a witness that is read, and of the frames that are judged.
use Rattle.std.specs.Prelude.{◌≡◌, ◌⊎◌, ◌+◌, ◌<◌, ℕ, Bool, true, false, List, [], ◌∷◌, ◌++◌, length, get_or, Some, slice_get, Result, Ok, Err}
use Rattle.text_core.specs.declared.place.Kind.{Kind}
use Rattle.text_core.specs.declared.verdict.Clause.{Clause}
use Rattle.text_core.specs.declared.verdict.Verdict.{Verdict}
use Rattle.text_core.specs.declared.verdict.Verdict.TheVariants.{Yes, No}
use Rattle.btor_tree.specs.declared.lines.Line.{Line}
use Rattle.btor_tree.specs.Fits.{is_bad, is_state, is_input, count_of}
use Rattle.word_core.specs.Words.{BitVector}
use Rattle.btor_tree.specs.Frame.{word_at}
use Rattle.btor_frames.specs.Held.{Held, FramesFit}
use Rattle.btor_frames.specs.Judged.{Statement}
use Rattle.btor_witness.specs.declared.phase.Phase.{Phase}
use Rattle.btor_witness.specs.declared.phase.Phase.TheVariants as phase
use Rattle.btor_witness.specs.declared.witness.Frame.{Frame}
use Rattle.btor_witness.specs.declared.witness.Witness.{Witness}
use Rattle.btor_witness.specs.Sizes.{sizes_of, widths_of}
use Rattle.btor_witness.specs.Reading.{Reading, frames_of, Next, nothing, moves, done, bad}
use Rattle.btor_witness.specs.Fitting.{FitsAt}
use Rattle.btor_witness.specs.Printing.{IsPart}
use Rattle.btor_witness.specs.Judging.{statement_of, OnStated, Passes, FailsFirst, IsJudgedAfter, judged_btor}
use Rattle.btor_witness.specs.Room.{places_of}
use Rattle.btor_judge.specs.declared.reader.Reader.{Reader}
use Rattle.btor_judge.specs.declared.reader.Stage.{Stage}
use Rattle.btor_judge.specs.declared.reader.Stage.TheVariants.{Going, Done, Refused, TooLong}
use Rattle.btor_judge.specs.Kept.{StatedPart, Holds}

-- the reader is made for these lines
pub record ReaderFits (lines : List Line) (reader : Reader) : Type 0 where
  pub bads : reader.bads ≡ count_of is_bad lines
  pub states : reader.states.widths ≡ widths_of is_state lines
  pub inputs : reader.inputs.widths ≡ widths_of is_input lines
  pub frames : FramesFit lines reader.frames
  pub places : reader.places ≡ places_of is_state lines

-- what frames state, before other statements
abbrev pub stated_before : List Frame → List Statement → List Statement
stated_before [] more = more
stated_before (f ∷ fs) more = statement_of f ∷ stated_before fs more

-- these frames are judged with this verdict, whatever statements come behind them: none has failed, and the next is judged
-- from the current frame on; or one has failed, and what comes behind doesn't matter
abbrev pub AreJudged : List Line → Held → ℕ → ℕ → List Frame → Verdict → Type 0
AreJudged lines held count j frames Yes =
    (stated : Statement) (more : List Statement) (verdict : Verdict) → IsJudgedAfter lines j count held.begun held.row (stated ∷ more) verdict → IsJudgedAfter lines j 0 false [] (stated_before frames (stated ∷ more)) verdict
AreJudged lines held count j frames (No step clause) =
    (stated : Statement) (more : List Statement) → IsJudgedAfter lines j 0 false [] (stated_before frames (stated ∷ more)) (No step clause)

-- nothing is judged before the bad line is known
abbrev pub IsFresh : Reader → List Frame → Phase → Type 0
IsFresh reader frames phase.Start = (reader.frames.begun ≡ false) × (reader.verdict ≡ Yes) × (frames ≡ [])
IsFresh reader frames phase.Property = (reader.frames.begun ≡ false) × (reader.verdict ≡ Yes) × (frames ≡ [])
IsFresh reader frames p = Unit {0}

-- the reader stands where this reading does
pub record IsAt (lines : List Line) (reader : Reader) (r : Reading) : Type 0 where
  pub fits : ReaderFits lines reader
  pub same_phase : reader.phase ≡ r.phase
  pub same_bad : reader.bad ≡ r.bad
  pub counted : reader.count ≡ length r.frames
  pub states : Holds reader.states r.states
  pub inputs : Holds reader.inputs r.inputs
  pub fresh : IsFresh reader r.frames r.phase
  pub judged : AreJudged lines reader.frames reader.count r.bad r.frames reader.verdict

-- the same where what the reading holds is fit for the lines
abbrev pub RepresentsIn : List Line → Reader → Reading → Type 0
RepresentsIn lines reader r = IsAt lines reader r × FitsAt (sizes_of lines) r.phase r

-- the reader stands where some reading does
abbrev pub IsSomewhere : List Line → Reader → Type 0
IsSomewhere lines reader = (r : Reading) × RepresentsIn lines reader r

-- the reader holds this frame, which is fit for the lines
pub record HasFrame (lines : List Line) (reader : Reader) (f : Frame) : Type 0 where
  pub fits : ReaderFits lines reader
  pub bad_line : reader.bad < count_of is_bad lines
  pub states : Holds reader.states f.states
  pub inputs : Holds reader.inputs f.inputs
  pub states_fit : IsPart (widths_of is_state lines) f.states
  pub inputs_fit : IsPart (widths_of is_input lines) f.inputs

-- the word of the state of this number is that of the row, where it is stated
abbrev pub AgreesAt : List ℕ → List BitVector → StatedPart → ℕ → Type 0
AgreesAt places row kept k = get_or kept.marks k false ≡ true → (place : ℕ) → slice_get places k ≡ Some place → word_at row place ≡ word_at kept.words k

-- one frame more is judged with this verdict: the last one, or one that another follows
abbrev pub JudgesFrame : List Line → Bool → Held → ℕ → ℕ → List Frame → Frame → Verdict → Type 0
JudgesFrame lines true held count j before f verdict = judged_btor lines (record { bad = j; frames = before ++ f ∷ [] }) verdict
JudgesFrame lines false held count j before f verdict = AreJudged lines held (count + 1) j (before ++ f ∷ []) verdict

-- the frame that the reader held is judged too, behind any others: as the last one, or as one that another follows
abbrev pub JudgesHeld : List Line → Bool → (old new : Reader) → Type 0
JudgesHeld lines last old new = (f : Frame) (before : List Frame) → HasFrame lines old f
    → AreJudged lines old.frames old.count old.bad before old.verdict → JudgesFrame lines last new.frames old.count old.bad before f new.verdict

-- the frame that the reader holds first fails this clause
abbrev pub HeldFails : List Line → Reader → Bool → Clause → Type 0
HeldFails lines reader last clause = (f : Frame) → HasFrame lines reader f
    → OnStated lines (statement_of f) reader.frames.row (λ begun. FailsFirst lines reader.bad begun last (statement_of f) reader.frames.row clause)

-- the frame that the reader holds fails no clause
abbrev pub HeldPasses : List Line → Reader → Bool → Type 0
HeldPasses lines reader last = (f : Frame) → HasFrame lines reader f
    → OnStated lines (statement_of f) reader.frames.row (λ begun. Passes lines reader.bad begun last (statement_of f) reader.frames.row)

-- all frames of a reading are judged
pub record HasClosed (lines : List Line) (reader : Reader) (r : Reading) : Type 0 where
  pub fits : ReaderFits lines reader
  pub same_bad : reader.bad ≡ r.bad
  pub counted : reader.count ≡ length (frames_of r)
  pub states : Holds reader.states r.states
  pub inputs : Holds reader.inputs r.inputs
  pub judged : AreJudged lines reader.frames reader.count r.bad (frames_of r) reader.verdict

-- the reader has read and judged this witness
pub record HasJudged (lines : List Line) (reader : Reader) (w : Witness) : Type 0 where
  pub bad : w.bad ≡ reader.bad
  pub steps : length w.frames ≡ reader.count + 1
  pub verdict : judged_btor lines w reader.verdict

-- what a line does to a reader that stood where a reading does
abbrev pub Does : List Line → Reading → Next → Reader → Stage → Type 0
Does lines r next reader Going = (q : Reading) × ((next ≡ moves q) ⊎ ((next ≡ nothing) × (q ≡ r))) × IsAt lines reader q
Does lines r next reader Done = (w : Witness) × (next ≡ done w) × HasJudged lines reader w
Does lines r next reader (Refused kind) = next ≡ bad kind
Does lines r next reader TooLong = ⊥

-- the stage behind a statement
abbrev pub IsStageOf : Result (Unit {0}) Kind → Stage → Type 0
IsStageOf (Ok _) stage = stage ≡ Going
IsStageOf (Err kind) stage = stage ≡ Refused kind
