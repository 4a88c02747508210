-- The frame that a statement means is there, and the words of its states are those that are given or stated.
use Rattle.std.proofs.Common.{◌≡◌, ℕ, zero, suc, ◌+◌, Bool, true, false, List, [], ◌∷◌, length, Option, Some, None, refl, sym, ap, ◌∙◌, arith}
use Rattle.std.specs.Prelude.{slice_get, option_map, IsTrue}
use Rattle.std.proofs.lemmas.Option.{same_Some, none-some}
use Rattle.word_core.specs.Words.{BitVector}
use Rattle.btor_tree.specs.declared.args.Arg.{Arg}
use Rattle.btor_tree.specs.declared.lines.Line.{Line}
use Rattle.btor_tree.specs.Fits.{IsWellFormed, is_input, is_state, state_value, width_at}
use Rattle.btor_tree.specs.Frame.{IsFrame, operand, word_at}
use Rattle.btor_tree.proofs.Paths.{state_is}
use Rattle.btor_tree.proofs.Rows.{row_upto}
use Rattle.btor_frames.specs.Steps.{ValuesHold, value_kind}
use Rattle.btor_frames.specs.Judged.{IsStatedFrame, Statement, stated_or}
use Rattle.btor_frames.proofs.Loop.{giving, is_step}
use Rattle.btor_frames.proofs.Stating.{step_stated}
use Rattle.btor_witness.specs.declared.witness.Frame.{Frame}
use Rattle.btor_witness.specs.declared.witness.Stated.{Stated}
use Rattle.btor_witness.specs.Judging.{statement_of}
use Rattle.btor_witness.specs.Printing.{IsPart, value_of}
use Rattle.btor_witness.specs.Room.{HoldsStated}
use Rattle.btor_witness.specs.Sizes.{widths_of}
use Rattle.btor_witness.proofs.Judgement.{handed_fit, hands}
use Rattle.moxi_layout.specs.Layout.{given}
use Rattle.moxi_layout.proofs.Entries.{input_is}
use Rattle.moxi_layout.proofs.Pairs.{state_of}
use Rattle.moxi_layout.proofs.Sizes.{LineAt}

-- ---- the frame of a statement

-- the stated word for each number from k on, or zero
abbrev words_from : List Stated → ℕ → List ℕ → List BitVector
words_from stated k [] = []
words_from stated k (w ∷ ws) = stated_or (value_of stated k) w ∷ words_from stated (suc k) ws

words_long : (stated : List Stated) (k : ℕ) (ws : List ℕ) → length (words_from stated k ws) ≡ length ws
words_long stated k [] = refl
words_long stated k (w ∷ ws) = ap suc (words_long stated (suc k) ws)

words_at : (stated : List Stated) (k : ℕ) (ws : List ℕ) (i w : ℕ) → slice_get ws i ≡ Some w → word_at (words_from stated k ws) i ≡ stated_or (value_of stated (k + i)) w
words_at stated k [] i w h = absurd (none-some w h)
words_at stated k (x ∷ ws) zero w h =
    let e : k ≡ k + 0 = omega arith in
    ap (stated_or (value_of stated k)) (same_Some x w h) ∙ ap (λ n. stated_or (value_of stated n) w) e
words_at stated k (x ∷ ws) (suc i) w h =
    let e : suc k + i ≡ k + suc i = omega arith in
    words_at stated (suc k) ws i w h ∙ ap (λ n. stated_or (value_of stated n) w) e

words_hold : (ws : List ℕ) (stated : List Stated) → HoldsStated ws stated (words_from stated 0 ws)
words_hold ws stated =
    record {
      sized = words_long stated 0 ws;
      by_index = λ k w h. words_at stated 0 ws k w h ∙ ap (λ n. stated_or (value_of stated n) w) (let e : 0 + k ≡ k = omega arith in e);
    }

pub stated_there : (lines : List Line) (begun : Bool) (before : List BitVector) (f : Frame) → IsWellFormed lines → (IsTrue begun → IsFrame lines before) → IsPart (widths_of is_input lines) f.inputs → IsPart (widths_of is_state lines) f.states
    → (row : List BitVector) × IsStatedFrame lines begun before (statement_of f) row
stated_there lines begun before f w framed a b =
    let inputs = words_from f.inputs 0 (widths_of is_input lines) in
    let free = words_from f.states 0 (widths_of is_state lines) in
    let h = words_hold (widths_of is_input lines) f.inputs in
    let k = words_hold (widths_of is_state lines) f.states in
    let row = row_upto lines (giving begun lines before inputs free) (length lines) in
    (row, step_stated lines begun before inputs free row (statement_of f) (hands lines f inputs free h k) (is_step begun lines before inputs free w framed (handed_fit lines f inputs free w a b h k)))

-- ---- its states

-- the row in which values are read
abbrev pub source : Bool → List BitVector → List BitVector → List BitVector
source true before row = before
source false before row = row

abbrev pub given_or : Option BitVector → BitVector → BitVector
given_or None x = x
given_or (Some y) x = y

value_is : (lines : List Line) (begun : Bool) (before row : List BitVector) (s : ℕ) (a : Arg) → ValuesHold begun lines before row → state_value (value_kind begun) lines s ≡ Some a → word_at row s ≡ operand (source begun before row) a
value_is lines true before row s a h e = h s a e
value_is lines false before row s a h e = h s a e

pub state_word : (lines : List Line) (begun : Bool) (before row : List BitVector) (stated : Statement) (n : ℕ) (l : Line) → IsStatedFrame lines begun before stated row → LineAt is_state lines n (state_of lines n) l
    → word_at row (state_of lines n) ≡ given_or (given (value_kind begun) lines (source begun before row) (state_of lines n)) (stated_or (stated.states n) (width_at lines (state_of lines n)))
state_word lines begun before row stated n l h at = go (state_value (value_kind begun) lines (state_of lines n)) refl
  where
    s : ℕ
    s = state_of lines n

    go : (o : Option Arg) → state_value (value_kind begun) lines s ≡ o → word_at row s ≡ given_or (option_map (operand (source begun before row)) (state_value (value_kind begun) lines s)) (stated_or (stated.states n) (width_at lines s))
    go None e =
        h.states s l at.there (state_is l.op at.is) e ∙ ap (λ m. stated_or (stated.states m) (width_at lines s)) at.number
        ∙ sym (ap (λ o. given_or (option_map (operand (source begun before row)) o) (stated_or (stated.states n) (width_at lines s))) e)
    go (Some a) e =
        value_is lines begun before row s a h.values e
        ∙ sym (ap (λ o. given_or (option_map (operand (source begun before row)) o) (stated_or (stated.states n) (width_at lines s))) e)

pub read_word : (lines : List Line) (begun : Bool) (before row : List BitVector) (stated : Statement) (n i : ℕ) (l : Line) → IsStatedFrame lines begun before stated row → LineAt is_input lines n i l
    → word_at row i ≡ stated_or (stated.inputs n) (width_at lines i)
read_word lines begun before row stated n i l h at =
    h.inputs i l at.there (input_is l.op at.is) ∙ ap (λ m. stated_or (stated.inputs m) (width_at lines i)) at.number
