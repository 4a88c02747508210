-- What a witness states, and the frames that it means (BTOR2, CAV 2018, section 2).
use Rattle.std.specs.Prelude.{◌≡◌, ℕ, Bool, true, false, List, [], ◌∷◌, take, Option, Some, None, slice_get}
use Rattle.word_core.specs.Words.{BitVector, IsWord}
use Rattle.btor_tree.specs.declared.args.Arg.{Arg}
use Rattle.btor_tree.specs.declared.lines.Line.{Line}
use Rattle.btor_tree.specs.declared.lines.LineOp.TheVariants.{Input, State}
use Rattle.btor_tree.specs.Fits.{is_input, is_state, count_of, state_value, width_at}
use Rattle.btor_tree.specs.Frame.{word_at, IsFrame, ConstraintsHold, IsBad}
use Rattle.btor_frames.specs.Steps.{value_kind, ValuesHold}

-- what is stated of a frame: the words of some state lines and input lines, each by its number among them
pub record Statement : Type 0 where
  pub states : ℕ → Option BitVector
  pub inputs : ℕ → Option BitVector

-- the stated word, or zero where there is none
abbrev pub stated_or : Option BitVector → ℕ → BitVector
stated_or None width = record { width = width; bits = 0 }
stated_or (Some x) width = x

-- the frame that a statement means: each determined state has its word, and each other state and each input the stated
-- word or zero; a state is determined in frame 0 where it has an init, and later where it has a next
pub record IsStatedFrame (lines : List Line) (begun : Bool) (last : List BitVector) (stated : Statement) (row : List BitVector) : Type 0 where
  pub frame : IsFrame lines row
  pub values : ValuesHold begun lines last row
  pub inputs : (i : ℕ) (l : Line) → slice_get lines i ≡ Some l → l.op ≡ Input → word_at row i ≡ stated_or (stated.inputs (count_of is_input (take i lines))) (width_at lines i)
  pub states : (i : ℕ) (l : Line) → slice_get lines i ≡ Some l → l.op ≡ State → state_value (value_kind begun) lines i ≡ None → word_at row i ≡ stated_or (stated.states (count_of is_state (take i lines))) (width_at lines i)

-- the frames that statements mean after a frame, or from frame 0 where none has begun: one for each statement
abbrev pub AreStatedAfter : List Line → Bool → List BitVector → List Statement → List (List BitVector) → Type 0
AreStatedAfter lines begun last [] [] = Unit {0}
AreStatedAfter lines begun last [] (row ∷ rows) = ⊥
AreStatedAfter lines begun last (stated ∷ more) [] = ⊥
AreStatedAfter lines begun last (stated ∷ more) (row ∷ rows) =
    IsStatedFrame lines begun last stated row × AreStatedAfter lines true row more rows

-- the frames 0 to k that statements of frames 0 to k mean
abbrev pub AreStatedFrames : List Line → List Statement → List (List BitVector) → Type 0
AreStatedFrames lines stated rows = AreStatedAfter lines false [] stated rows

-- each stated word of a determined state is the state's
abbrev pub StatesAgree : List Line → Bool → Statement → List BitVector → Type 0
StatesAgree lines begun stated row =
    (i : ℕ) (l : Line) (a : Arg) (x : BitVector) → slice_get lines i ≡ Some l → l.op ≡ State → state_value (value_kind begun) lines i ≡ Some a → stated.states (count_of is_state (take i lines)) ≡ Some x → word_at row i ≡ x

-- in each frame the stated words agree and the constraints hold, and in the last one the bad line of number j is true
abbrev pub PassAfter : List Line → ℕ → Bool → List Statement → List (List BitVector) → Type 0
PassAfter lines j begun [] rows = ⊥
PassAfter lines j begun (stated ∷ more) [] = ⊥
PassAfter lines j begun (stated ∷ []) (row ∷ rows) =
    StatesAgree lines begun stated row × ConstraintsHold lines row × IsBad lines row j
PassAfter lines j begun (stated ∷ next ∷ more) (row ∷ rows) =
    StatesAgree lines begun stated row × ConstraintsHold lines row × PassAfter lines j true (next ∷ more) rows

-- the statements of frames 0 to k are a witness for the bad line of number j: the frames that they mean pass
abbrev pub IsAccepted : List Line → ℕ → List Statement → Type 0
IsAccepted lines j stated =
    (rows : List (List BitVector)) × AreStatedFrames lines stated rows × PassAfter lines j false stated rows

-- a word of the line's width
abbrev pub IsOfLine : List Line → ℕ → BitVector → Type 0
IsOfLine lines i x = IsWord x × (x.width ≡ width_at lines i)

-- each stated word is one of its line's width
pub record StatementFits (lines : List Line) (stated : Statement) : Type 0 where
  pub inputs : (i : ℕ) (l : Line) (x : BitVector) → slice_get lines i ≡ Some l → l.op ≡ Input → stated.inputs (count_of is_input (take i lines)) ≡ Some x → IsOfLine lines i x
  pub states : (i : ℕ) (l : Line) (x : BitVector) → slice_get lines i ≡ Some l → l.op ≡ State → stated.states (count_of is_state (take i lines)) ≡ Some x → IsOfLine lines i x

-- the words that are supplied are those of a statement: the stated word or zero for each input line and each state line
pub record SuppliesStated (lines : List Line) (stated : Statement) (inputs free : List BitVector) : Type 0 where
  pub inputs_stated : (i : ℕ) (l : Line) → slice_get lines i ≡ Some l → l.op ≡ Input → word_at inputs (count_of is_input (take i lines)) ≡ stated_or (stated.inputs (count_of is_input (take i lines))) (width_at lines i)
  pub states_stated : (i : ℕ) (l : Line) → slice_get lines i ≡ Some l → l.op ≡ State → word_at free (count_of is_state (take i lines)) ≡ stated_or (stated.states (count_of is_state (take i lines))) (width_at lines i)
