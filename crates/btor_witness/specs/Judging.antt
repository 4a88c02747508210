-- What a judge says of a witness (BTOR2, CAV 2018, witness format).
use Rattle.std.specs.Prelude.{◌≡◌, ◌⊎◌, ℕ, suc, Bool, true, false, List, [], ◌∷◌, map}
use Rattle.text_core.specs.declared.verdict.Clause.{Clause}
use Rattle.text_core.specs.declared.verdict.Clause.TheVariants.{StateDiffers, ConstraintFails, NotBroken}
use Rattle.text_core.specs.declared.verdict.Verdict.{Verdict}
use Rattle.text_core.specs.declared.verdict.Verdict.TheVariants.{Yes, No}
use Rattle.word_core.specs.Words.{BitVector}
use Rattle.btor_tree.specs.declared.lines.Line.{Line}
use Rattle.btor_tree.specs.Frame.{ConstraintsHold, IsBad}
use Rattle.btor_frames.specs.Judged.{Statement, IsStatedFrame, AreStatedFrames, StatesAgree}
use Rattle.btor_witness.specs.declared.witness.Frame.{Frame}
use Rattle.btor_witness.specs.declared.witness.Witness.{Witness}
use Rattle.btor_witness.specs.Printing.{value_of}

-- what a frame of a witness states
abbrev pub statement_of : Frame → Statement
statement_of f = record { states = value_of f.states; inputs = value_of f.inputs }

-- what a witness states, from frame 0 on
abbrev pub statements_of : Witness → List Statement
statements_of w = map statement_of w.frames

-- does no statement come behind?
abbrev pub is_last : List Statement → Bool
is_last [] = true
is_last (stated ∷ more) = false

-- a frame passes: the stated words of determined states are the states', each constraint is true, and in the last frame
-- the bad line of number j is
abbrev pub Passes : List Line → ℕ → Bool → Bool → Statement → List BitVector → Type 0
Passes lines j begun last stated row =
    StatesAgree lines begun stated row × ConstraintsHold lines row × (last ≡ true → IsBad lines row j)

-- the clause is the first of these that a frame fails
abbrev pub FailsFirst : List Line → ℕ → Bool → Bool → Statement → List BitVector → Clause → Type 0
FailsFirst lines j begun last stated row StateDiffers = StatesAgree lines begun stated row → ⊥
FailsFirst lines j begun last stated row ConstraintFails =
    StatesAgree lines begun stated row × (ConstraintsHold lines row → ⊥)
FailsFirst lines j begun last stated row NotBroken =
    StatesAgree lines begun stated row × ConstraintsHold lines row × (last ≡ true) × (IsBad lines row j → ⊥)
FailsFirst lines j begun last stated row clause = ⊥

-- whatever frame a row comes after, where it is the one that the statement means
abbrev pub OnStated : List Line → Statement → List BitVector → (Bool → Type 0) → Type 0
OnStated lines stated row P = (begun : Bool) (before : List BitVector) → IsStatedFrame lines begun before stated row → P begun

-- what is judged of statements from a step on, after a frame or from frame 0 where none has begun: the frame that the
-- first of them means fails, or it passes and the rest is judged; where no frame is left, none has failed
abbrev pub IsJudgedAfter : List Line → ℕ → ℕ → Bool → List BitVector → List Statement → Verdict → Type 0
IsJudgedAfter lines j step begun before [] verdict = verdict ≡ Yes
IsJudgedAfter lines j step begun before (stated ∷ more) verdict =
    (row : List BitVector) × IsStatedFrame lines begun before stated row × (((clause : Clause) × FailsFirst lines j begun (is_last more) stated row clause × (verdict ≡ No step clause)) ⊎ (Passes lines j begun (is_last more) stated row × IsJudgedAfter lines j (suc step) true row more verdict))

-- the verdict on a witness: yes, or the earliest step whose frame fails, with the first clause that it fails
abbrev pub judged_btor : List Line → Witness → Verdict → Type 0
judged_btor lines w verdict = IsJudgedAfter lines w.bad 0 false [] (statements_of w) verdict

-- the frames that a witness states: each determined state has its word, and each other state and each input the stated
-- word or zero
abbrev pub stated_frames : List Line → Witness → List (List BitVector) → Type 0
stated_frames lines w rows = AreStatedFrames lines (statements_of w) rows
