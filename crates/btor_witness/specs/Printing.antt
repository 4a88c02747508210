-- The one printed form of a witness.
use Rattle.std.specs.Prelude.{◌≡◌, ◌≢◌, ◌==◌, ℕ, zero, suc, ◌<◌, ◌≤◌, Bool, true, false, ◌&&◌, nat_le, List, [], ◌∷◌, ◌++◌, length, map, get_or, Option, Some, None, slice_get, if◌then◌else◌, codes, decimal}
use Rattle.std.specs.Option.{option_or}
use Rattle.std.specs.List.{flat_map, AllByRecursion}
use Rattle.word_core.specs.Words.{BitVector, IsWord}
use Rattle.text_core.specs.Binary.{binary_digits}
use Rattle.btor_tree.specs.declared.lines.Line.{Line}
use Rattle.btor_witness.specs.declared.witness.Stated.{Stated}
use Rattle.btor_witness.specs.declared.witness.Frame.{Frame}
use Rattle.btor_witness.specs.declared.witness.Witness.{Witness}
use Rattle.btor_witness.specs.Sizes.{Sizes, sizes_of, is_within, most_bytes}
use Rattle.btor_witness.specs.Parts.{is_stated}

-- a word of the width that is stated for this number
abbrev pub IsOf : List ℕ → Stated → Type 0
IsOf widths s = (slice_get widths s.index ≡ Some s.value.width) × IsWord s.value

-- no number is stated twice
abbrev pub IsStatedOnce : List Stated → Type 0
IsStatedOnce [] = Unit {0}
IsStatedOnce (s ∷ ss) = (is_stated ss s.index ≡ false) × IsStatedOnce ss

-- a part of a frame states words of the right widths, each once
abbrev pub IsPart : List ℕ → List Stated → Type 0
IsPart widths stated = AllByRecursion (IsOf widths) stated × IsStatedOnce stated

-- a witness for lines of these sizes
pub record IsWitness (sizes : Sizes) (w : Witness) : Type 0 where
  pub bad : w.bad < sizes.bads
  pub some : w.frames ≢ []
  pub states : AllByRecursion (λ f. IsPart sizes.states f.states) w.frames
  pub inputs : AllByRecursion (λ f. IsPart sizes.inputs f.inputs) w.frames

-- the word that is stated for a number
abbrev pub value_of : List Stated → ℕ → Option BitVector
value_of [] i = None
value_of (s ∷ ss) i = option_or (value_of ss i) (if s.index == i then Some s.value else None)

abbrev pub one_statement : ℕ → Option BitVector → List Stated
one_statement i None = []
one_statement i (Some word) = record { index = i; value = word } ∷ []

-- the statements of the numbers below n, in rising order
abbrev pub rising : List Stated → ℕ → List Stated
rising stated zero = []
rising stated (suc n) = rising stated n ++ one_statement n (value_of stated n)

-- does each statement have a greater number than the one before it, from this number on?
abbrev pub rises_from : ℕ → List Stated → Bool
rises_from low [] = true
rises_from low (s ∷ ss) = nat_le low s.index && rises_from (suc s.index) ss

abbrev pub rising_frame : Sizes → Frame → Frame
rising_frame sizes f =
    record { states = rising f.states (length sizes.states); inputs = rising f.inputs (length sizes.inputs) }

-- the same witness with each part's statements in rising order
abbrev pub rising_witness : Sizes → Witness → Witness
rising_witness sizes w = record { bad = w.bad; frames = map (rising_frame sizes) w.frames }

-- a line of a byte and a number
abbrev pub number_line : ℕ → ℕ → List ℕ
number_line mark n = mark ∷ (decimal n ++ 10 ∷ [])

abbrev pub statement_line : Stated → List ℕ
statement_line s = decimal s.index ++ 32 ∷ (binary_digits s.value.width s.value.bits ++ 10 ∷ [])

-- a part of states that states nothing is left out
abbrev pub states_text : ℕ → List Stated → List ℕ
states_text n [] = []
states_text n (s ∷ ss) = number_line 35 n ++ flat_map statement_line (s ∷ ss)

abbrev pub inputs_text : ℕ → List Stated → List ℕ
inputs_text n stated = number_line 64 n ++ flat_map statement_line stated

abbrev pub frame_text : ℕ → Frame → List ℕ
frame_text n f = states_text n f.states ++ inputs_text n f.inputs

-- the frames from number n on
abbrev pub frames_text : ℕ → List Frame → List ℕ
frames_text n [] = []
frames_text n (f ∷ fs) = frame_text n f ++ frames_text (suc n) fs

abbrev pub witness_text : Witness → List ℕ
witness_text w = codes "sat" ++ 10 ∷ (number_line 98 w.bad ++ (frames_text 0 w.frames ++ (codes "." ++ 10 ∷ [])))

-- the printed form for these lines
abbrev pub printed : List Line → Witness → List ℕ
printed lines w = witness_text (rising_witness (sizes_of lines) w)

-- the witness and its printed form are within what is read
abbrev pub IsWithinLimits : List Line → Witness → Type 0
IsWithinLimits lines w = (is_within (sizes_of lines) (length w.frames) ≡ true) × (length (printed lines w) ≤ most_bytes)

-- a statement of a number below the count
abbrev pub IsBelow : ℕ → Stated → Type 0
IsBelow count s = s.index < count

-- the table has the word that is stated for each number
pub record TableOf (stated : List Stated) (count : ℕ) (table : List (Option BitVector)) : Type 0 where
  pub long : length table ≡ count
  pub by_index : (i : ℕ) → get_or table i None ≡ value_of stated i
