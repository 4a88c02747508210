-- A step from frame to frame (BTOR2, CAV 2018, section 2).
use Rattle.std.specs.Prelude.{◌≡◌, ℕ, Bool, true, false, List, length, take, Option, Some, None, slice_get}
use Rattle.word_core.specs.Words.{BitVector}
use Rattle.btor_tree.specs.declared.args.Arg.{Arg}
use Rattle.btor_tree.specs.declared.lines.Line.{Line}
use Rattle.btor_tree.specs.declared.lines.LineOp.{LineOp}
use Rattle.btor_tree.specs.declared.lines.LineOp.TheVariants.{Input, State}
use Rattle.btor_tree.specs.Fits.{is_init, is_next, is_input, is_state, count_of, state_value}
use Rattle.btor_tree.specs.Frame.{nothing, word_at, operand, init_operand, IsFrame, GivenFits, InitsHold, NextsHold}

-- the lines that give states their values: init lines in frame 0, next lines later
abbrev pub value_kind : Bool → LineOp → Bool
value_kind true op = is_next op
value_kind false op = is_init op

-- inputs and states take given words
abbrev pub is_given : LineOp → Bool
is_given Input = true
is_given State = true
is_given op = false

-- states have the words of those lines: read in the frame before, or in frame 0 in the row itself
abbrev pub ValuesHold : Bool → List Line → List BitVector → List BitVector → Type 0
ValuesHold true lines last row = NextsHold lines last row
ValuesHold false lines last row = InitsHold lines row

-- the word of a value, while the row is filled: read in the frame before, or in frame 0 in a constant or an earlier word
abbrev pub value_word : Bool → List Line → List BitVector → List BitVector → Arg → BitVector
value_word true lines last row a = operand last a
value_word false lines last row a = init_operand lines row a

-- the word that is supplied for a line: inputs and states have one each, in order
abbrev pub supplied_for : LineOp → List Line → List BitVector → List BitVector → BitVector
supplied_for Input before inputs free = word_at inputs (count_of is_input before)
supplied_for State before inputs free = word_at free (count_of is_state before)
supplied_for op before inputs free = nothing

abbrev pub supplied_line : Option Line → List Line → List BitVector → List BitVector → BitVector
supplied_line None before inputs free = nothing
supplied_line (Some l) before inputs free = supplied_for l.op before inputs free

abbrev pub supplied_at : List Line → List BitVector → List BitVector → ℕ → BitVector
supplied_at lines inputs free i = supplied_line (slice_get lines i) (take i lines) inputs free

-- the row is the frame after `last`, or frame 0 where none has begun, with these words of inputs and of states without a value
pub record IsStep (lines : List Line) (begun : Bool) (last inputs free row : List BitVector) : Type 0 where
  pub frame : IsFrame lines row
  pub values : ValuesHold begun lines last row
  pub inputs_read : (i : ℕ) (l : Line) → slice_get lines i ≡ Some l → l.op ≡ Input → word_at row i ≡ word_at inputs (count_of is_input (take i lines))
  pub free_read : (i : ℕ) (l : Line) → slice_get lines i ≡ Some l → l.op ≡ State → state_value (value_kind begun) lines i ≡ None → word_at row i ≡ word_at free (count_of is_state (take i lines))

-- one word for each input line and one for each state line, of their widths
pub record SuppliedFit (lines : List Line) (inputs free : List BitVector) : Type 0 where
  pub inputs_long : length inputs ≡ count_of is_input lines
  pub free_long : length free ≡ count_of is_state lines
  pub fits : (i : ℕ) (l : Line) → slice_get lines i ≡ Some l → GivenFits (take i lines) l.sort l.op (supplied_for l.op (take i lines) inputs free)
