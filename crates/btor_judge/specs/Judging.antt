-- The text that a judge stands for, and what it answers.
use Rattle.std.specs.Prelude.{◌≡◌, ◌==◌, ◌+◌, ◌<◌, ◌≤◌, ℕ, Bool, true, false, not, ◌&&◌, List, [], ◌∷◌, ◌++◌, length}
use Rattle.text_core.specs.declared.place.Kind.{Kind}
use Rattle.text_core.specs.declared.place.Place.{Place}
use Rattle.text_core.specs.declared.end.End.TheVariants as end
use Rattle.btor_tree.specs.declared.lines.Line.{Line}
use Rattle.btor_tree.specs.Parts.{raw_lines, bytes_before, line_place}
use Rattle.btor_witness.specs.declared.witness.Witness.{Witness}
use Rattle.btor_witness.specs.Sizes.{sizes_of, most_bytes}
use Rattle.btor_witness.specs.Reading.{Reading}
use Rattle.btor_witness.specs.Fitting.{FitsAt}
use Rattle.btor_witness.specs.Texts.{Reads, Refuses, ReadsText, RefusesText, SpellsWitness}
use Rattle.btor_witness.specs.Answer.{IsRefused}
use Rattle.btor_witness.specs.Judging.{judged_btor}
use Rattle.btor_judge.specs.declared.judge.Judge.{Judge}
use Rattle.btor_judge.specs.declared.judge.JudgeEnd.{JudgeEnd}
use Rattle.btor_judge.specs.declared.judge.JudgeEnd.TheVariants.{Judged, Bad}
use Rattle.btor_judge.specs.declared.reader.Stage.{Stage}
use Rattle.btor_judge.specs.declared.reader.Stage.TheVariants.{Going, Done, Refused, TooLong}
use Rattle.btor_judge.specs.Scanning.{line_of}
use Rattle.btor_judge.specs.Standing.{IsAt, HasJudged}

-- no byte of these ends a line
abbrev pub is_one_line : List ℕ → Bool
is_one_line [] = true
is_one_line (b ∷ bs) = not (b == 10) && is_one_line bs

-- has the judge been asked for its answer?
abbrev pub has_ended : Judge → Bool
has_ended judge = judge.ended

-- with one byte more
abbrev pub counted : Judge → Judge
counted judge = record judge { bytes = judge.bytes + 1 }

-- asked for its answer
abbrev pub closed : Judge → Judge
closed judge = record judge { ended = true }

-- what may still come: nothing where the judge has ended
abbrev pub MayCome : Bool → List ℕ → Type 0
MayCome ended more = ended ≡ true → more ≡ []

-- the place of the line that is read
abbrev pub place_of : Judge → Place
place_of judge = record { line = judge.lines + 1; column = 1; offset = judge.offset }

-- reading goes on: lines of the text are read, up to this reading, and bytes of the next; whatever comes behind, it makes of
-- these bytes what it makes of the text
pub record IsReading (lines : List Line) (judge : Judge) (text : List ℕ) : Type 0 where
  pub unended : judge.ended ≡ false
  pub going : judge.stage ≡ Going
  pub counted : judge.bytes ≡ length text
  pub short : length text ≤ most_bytes
  pub reading : Reading
  pub current : List ℕ
  pub at : IsAt lines judge.reader reading
  pub fits : FitsAt (sizes_of lines) reading.phase reading
  pub line : judge.line ≡ line_of current
  pub unbroken : is_one_line current ≡ true
  pub begins : judge.offset + length current ≡ length text
  pub numbered : judge.lines ≤ judge.offset
  pub reads : (more : List ℕ) (w : Witness) → Reads (sizes_of lines) reading (raw_lines (current ++ more)) w → ReadsText (sizes_of lines) (text ++ more) w
  pub refuses : (more : List ℕ) (kind : Kind) (at : ℕ) → Refuses judge.lines (sizes_of lines) reading (raw_lines (current ++ more)) kind at → RefusesText (sizes_of lines) (text ++ more) kind at
  pub placed : (more : List ℕ) (k : ℕ) → bytes_before (judge.lines + k) (raw_lines (text ++ more)) ≡ judge.offset + bytes_before k (raw_lines (current ++ more))

-- nothing of the current line has come, and the text is within the limit behind a line of these bytes and its end
pub record BeginsLine (judge : Judge) (raw : List ℕ) : Type 0 where
  pub going : judge.stage ≡ Going
  pub fresh : judge.offset ≡ judge.bytes
  pub short : judge.bytes + length raw < most_bytes

-- the witness is read and judged, whatever comes behind
pub record IsDone (lines : List Line) (judge : Judge) (text : List ℕ) : Type 0 where
  pub counted : judge.bytes ≡ length text
  pub short : length text ≤ most_bytes
  pub witness : Witness
  pub judged : HasJudged lines judge.reader witness
  pub reads : (more : List ℕ) → MayCome judge.ended more → ReadsText (sizes_of lines) (text ++ more) witness

-- the line is refused, whatever comes behind
pub record IsStopped (lines : List Line) (judge : Judge) (text : List ℕ) (kind : Kind) : Type 0 where
  pub counted : judge.bytes ≡ length text
  pub short : length text ≤ most_bytes
  pub numbered : judge.lines ≤ judge.offset
  pub within : judge.offset ≤ length text
  pub refuses : (more : List ℕ) → MayCome judge.ended more → RefusesText (sizes_of lines) (text ++ more) kind (judge.lines + 1)
  pub placed : (more : List ℕ) → MayCome judge.ended more → place_of judge ≡ line_place (text ++ more) (judge.lines + 1)

-- the judge stands for the text, at its stage
abbrev pub RepresentsAt : List Line → Judge → List ℕ → Stage → Type 0
RepresentsAt lines judge text Going = IsReading lines judge text
RepresentsAt lines judge text Done = IsDone lines judge text
RepresentsAt lines judge text (Refused kind) = IsStopped lines judge text kind
RepresentsAt lines judge text TooLong = (most_bytes < length text) × (most_bytes ≤ judge.bytes)

-- The judge stands for the text: what it holds is what is read of the text and judged of it.
abbrev pub Represents : List Line → Judge → List ℕ → Type 0
Represents lines judge text = RepresentsAt lines judge text judge.stage

-- the judge stands for some text
abbrev pub RepresentsSome : List Line → Judge → Type 0
RepresentsSome lines judge = (text : List ℕ) × Represents lines judge text

-- The answer is the text's: the bad line, the last step and the verdict of the witness that it spells, or its refusal.
abbrev pub Answers : List Line → List ℕ → JudgeEnd → Type 0
Answers lines text (Judged bad step verdict) =
    (w : Witness) × SpellsWitness lines text w × (w.bad ≡ bad) × (length w.frames ≡ step + 1) × judged_btor lines w verdict
Answers lines text (Bad refusal) = IsRefused lines text (end.Bad refusal)
