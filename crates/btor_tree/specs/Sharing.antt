-- One line for all that say the same: which lines are shared, what it is to say the same, and what a push does to a list of lines.
use Rattle.std.specs.Prelude.{◌≡◌, ◌==◌, ◌+◌, ◌<◌, ℕ, suc, Bool, true, false, not, ◌&&◌, ◌||◌, List, [], ◌∷◌, ◌++◌, length, Option, Some, None, option_map, slice_get, if◌then◌else◌}
use Rattle.std.specs.List.{AllByRecursion}
use Rattle.btor_tree.specs.declared.args.Arg.{Arg}
use Rattle.btor_tree.specs.declared.lines.Line.{Line}
use Rattle.btor_tree.specs.declared.lines.LineOp.{LineOp}
use Rattle.btor_tree.specs.declared.lines.LineOp.TheVariants as op
use Rattle.word_core.specs.Words.{BitVector}
use Rattle.btor_tree.specs.Fits.{Suits, IsWellFormed, greatest_id, has_word, is_input, is_state, last_id, sort_at, width_at}
use Rattle.btor_tree.specs.Frame.{Meets, Equation, word_at}
use Rattle.btor_tree.specs.Shapes.{unary_number, binary_number}

-- Is one line enough for all that say the same? Each input and each state is a line of its own, and init, next, bad, constraint and
-- output lines say something of the frames. A sort, a constant and an operator are fixed by what their line says.
abbrev pub is_shared : LineOp → Bool
is_shared (op.Sort w) = true
is_shared o = has_word o && not (is_input o || is_state o)

-- the number of a kind of line that is shared, or 0
abbrev pub op_kind : LineOp → ℕ
op_kind (op.Sort w) = 1
op_kind (op.Constant c) = 2
op_kind op.One = 3
op_kind op.Zero = 4
op_kind op.Ones = 5
op_kind (op.Unary u) = 6
op_kind (op.Binary b) = 7
op_kind op.Ite = 8
op_kind (op.Slice high low) = 9
op_kind (op.Uext n) = 10
op_kind (op.Sext n) = 11
op_kind o = 0

-- the first number that such a line has: a width, the bits of a constant, the number of an operator, the highest bit, or the number of new bits
abbrev pub op_number : LineOp → ℕ
op_number (op.Sort w) = w
op_number (op.Constant c) = c.bits
op_number (op.Unary u) = unary_number u
op_number (op.Binary b) = binary_number b
op_number (op.Slice high low) = high
op_number (op.Uext n) = n
op_number (op.Sext n) = n
op_number o = 0

-- the second number: the width of a constant, or the lowest bit
abbrev pub op_second : LineOp → ℕ
op_second (op.Constant c) = c.width
op_second (op.Slice high low) = low
op_second o = 0

-- are these the same words of a line, with the same numbers?
abbrev pub same_op : LineOp → LineOp → Bool
same_op a b = (op_kind a == op_kind b) && ((op_number a == op_number b) && (op_second a == op_second b))

abbrev pub same_sign : Bool → Bool → Bool
same_sign true b = b
same_sign false b = not b

-- the same line, with the same sign
abbrev pub same_arg : Arg → Arg → Bool
same_arg a b = (a.line == b.line) && same_sign a.negated b.negated

abbrev pub same_args : List Arg → List Arg → Bool
same_args [] [] = true
same_args (x ∷ xs) (y ∷ ys) = same_arg x y && same_args xs ys
same_args xs ys = false

-- Does a line say this: the same word with its numbers, the same sort line, the same arguments? Its id and its symbol don't count.
abbrev pub is_equal_line : LineOp → ℕ → List Arg → Line → Bool
is_equal_line o sort args l = same_op o l.op && ((sort == l.sort) && same_args args l.args)

-- the place of the first line that says this
abbrev pub place_of_equal : List Line → LineOp → ℕ → List Arg → Option ℕ
place_of_equal [] o sort args = None
place_of_equal (l ∷ ls) o sort args = if is_equal_line o sort args l then Some 0 else option_map suc (place_of_equal ls o sort args)

-- the place of the line that says this, where such lines are shared
abbrev pub standing : List Line → LineOp → ℕ → List Arg → Option ℕ
standing lines o sort args = if is_shared o then place_of_equal lines o sort args else None

-- the line that comes next, with the next id
abbrev pub next_line : List Line → LineOp → ℕ → List Arg → Option (List ℕ) → Line
next_line lines o sort args symbol = record { id = length lines + 1; op = o; sort = sort; args = args; symbol = symbol }

-- the lines as they are and a place in them, or the lines with one more and its place
abbrev pub placed : Option ℕ → List Line → Line → List Line × ℕ
placed (Some p) lines l = (lines, p)
placed None lines l = (lines ++ l ∷ [], length lines)

-- What a push does to lines: they stay, and the place is that of the line that says this already; or the line comes at their end.
abbrev pub pushed : List Line → LineOp → ℕ → List Arg → Option (List ℕ) → List Line × ℕ
pushed lines o sort args symbol = placed (standing lines o sort args) lines (next_line lines o sort args symbol)

-- the sort line of a width, made at the first need
abbrev pub with_sort : List Line → ℕ → List Line × ℕ
with_sort lines w = pushed lines (op.Sort w) 0 [] None

-- a line says this
abbrev pub Says : LineOp → ℕ → List Arg → Line → Type 0
Says o sort args l = (l.op ≡ o) × (l.sort ≡ sort) × (l.args ≡ args)

-- the line at a place says this
abbrev pub SaysAt : List Line → ℕ → LineOp → ℕ → List Arg → Type 0
SaysAt lines p o sort args = (l : Line) × (slice_get lines p ≡ Some l) × Says o sort args l

-- what grew are sorts, constants and operators alone
abbrev pub GrowsByShared : List Line → List Line → Type 0
GrowsByShared old new = (more : List Line) × (new ≡ old ++ more) × AllByRecursion (λ l. is_shared l.op ≡ true) more

-- no two lines that are shared say the same
pub record HasNoDuplicates (lines : List Line) : Type 0 where
  pub by_places : (i j : ℕ) (l m : Line) → slice_get lines i ≡ Some l → slice_get lines j ≡ Some m → is_shared l.op ≡ true → Says m.op m.sort m.args l → i ≡ j

-- what one push gets
pub record Push : Type 0 where
  pub op : LineOp
  pub sort : ℕ
  pub args : List Arg
  pub symbol : Option (List ℕ)

-- the lines that pushes make, one after another
abbrev pub built : List Line → List Push → List Line
built lines [] = lines
built lines (p ∷ ps) = built (pushed lines p.op p.sort p.args p.symbol).0 ps

-- what a push makes of well-formed lines with the ids 1, 2, 3 and so on is such again
abbrev pub PushFits : List Line → LineOp → ℕ → List Arg → Option (List ℕ) → Type 0
PushFits lines o sort args symbol =
    IsWellFormed lines → last_id lines ≡ length lines → length lines < greatest_id → Suits lines o sort args symbol → IsWellFormed (pushed lines o sort args symbol).0 × (last_id (pushed lines o sort args symbol).0 ≡ length (pushed lines o sort args symbol).0)

-- words that meet the lines behind a push meet those before it, and at the place stands the word of what was pushed
abbrev pub PushIsMet : List Line → LineOp → ℕ → List Arg → Option (List ℕ) → List BitVector → Type 0
PushIsMet lines o sort args symbol row =
    IsWellFormed lines → Suits lines o sort args symbol → Meets (pushed lines o sort args symbol).0 row → Meets lines row × Equation lines row sort o args (word_at row (pushed lines o sort args symbol).1)

-- the word at the place has the width of the sort that was pushed
abbrev pub PushHasWidth : List Line → LineOp → ℕ → List Arg → Option (List ℕ) → Type 0
PushHasWidth lines o sort args symbol =
    IsWellFormed lines → Suits lines o sort args symbol → has_word o ≡ true → width_at (pushed lines o sort args symbol).0 (pushed lines o sort args symbol).1 ≡ sort_at lines sort
