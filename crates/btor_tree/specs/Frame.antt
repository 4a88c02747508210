-- Frames as sets of equations over line places, and frames that follow one another (BTOR2, CAV 2018, section 2).
use Rattle.std.specs.Prelude.{◌≡◌, ◌-◌, ◌^◌, ℕ, Bool, List, [], ◌∷◌, length, take, Option, Some, None, slice_get, slice_index_or, if◌then◌else◌, IsSomeAnd}
use Rattle.std.specs.List.{AllByRecursion}
use Rattle.word_core.specs.Words.{BitVector, IsWord}
use Rattle.word_core.specs.Table.{unary_of, binary_of, ite_of, slice_of, uext_of, sext_of}
use Rattle.word_core.specs.declared.kinds.Unary.TheVariants.{Not}
use Rattle.btor_tree.specs.declared.args.Arg.{Arg}
use Rattle.btor_tree.specs.declared.lines.Line.{Line}
use Rattle.btor_tree.specs.declared.lines.LineOp.{LineOp}
use Rattle.btor_tree.specs.declared.lines.LineOp.TheVariants.{Input, State, Constant, One, Zero, Ones, Unary, Binary, Ite, Slice, Uext, Sext}
use Rattle.btor_tree.specs.Fits.{OnOne, OnTwo, OnThree, sort_at, state_value, operands, is_init, is_next, is_bad, is_constraint, is_constant, kind_at}

-- what is at the place of a line that has no word
abbrev pub nothing : BitVector
nothing = record { width = 1; bits = 0 }

-- the word 1 of one bit
abbrev pub true_word : BitVector
true_word = record { width = 1; bits = 1 }

-- the word of the line at a place
abbrev pub word_at : List BitVector → ℕ → BitVector
word_at row i = slice_index_or row i nothing

-- a word, or the bitwise not of it
abbrev pub signed_word : Bool → BitVector → BitVector
signed_word negated x = if negated then unary_of Not x else x

-- the word of an argument: of its line, or the bitwise not of that
abbrev pub operand : List BitVector → Arg → BitVector
operand row a = signed_word a.negated (word_at row a.line)

-- the word of a constant line of width w, and nothing at lines that have no word
abbrev pub constant_word : ℕ → LineOp → BitVector
constant_word w (Constant c) = c
constant_word w One = record { width = w; bits = 1 }
constant_word w Zero = record { width = w; bits = 0 }
constant_word w Ones = record { width = w; bits = 2 ^ w - 1 }
constant_word w op = nothing

-- the equation of a line whose word is x
abbrev pub Equation : List Line → List BitVector → ℕ → LineOp → List Arg → BitVector → Type 0
Equation before row s Input args x = IsWord x × (x.width ≡ sort_at before s)
Equation before row s State args x = IsWord x × (x.width ≡ sort_at before s)
Equation before row s (Unary op) args x = OnOne args (λ a. x ≡ unary_of op (operand row a))
Equation before row s (Binary op) args x = OnTwo args (λ a b. x ≡ binary_of op (operand row a) (operand row b))
Equation before row s Ite args x = OnThree args (λ c a b. x ≡ ite_of (operand row c) (operand row a) (operand row b))
Equation before row s (Slice high low) args x = OnOne args (λ a. x ≡ slice_of (operand row a) high low)
Equation before row s (Uext n) args x = OnOne args (λ a. x ≡ uext_of (operand row a) n)
Equation before row s (Sext n) args x = OnOne args (λ a. x ≡ sext_of (operand row a) n)
Equation before row s op args x = x ≡ constant_word (sort_at before s) op

-- what is given fits, where it is read
abbrev pub GivenFits : List Line → ℕ → LineOp → BitVector → Type 0
GivenFits before s Input given = IsWord given × (given.width ≡ sort_at before s)
GivenFits before s State given = IsWord given × (given.width ≡ sort_at before s)
GivenFits before s op given = Unit {0}

-- words for the inputs, and for the states that have no value
pub record FreeFits (lines : List Line) (free : ℕ → BitVector) : Type 0 where
  pub fits : (i : ℕ) (l : Line) → slice_get lines i ≡ Some l → GivenFits (take i lines) l.sort l.op (free i)

-- the word of the argument, or the word where there is none
abbrev pub read_or : Option Arg → (Arg → BitVector) → BitVector → BitVector
read_or None read x = x
read_or (Some a) read x = read a

abbrev pub constant_of : List Line → Option Line → BitVector
constant_of lines None = nothing
constant_of lines (Some l) = constant_word (sort_at lines l.sort) l.op

-- the word of an init's value where the words before its state are known: a constant's is known without them
abbrev pub init_operand : List Line → List BitVector → Arg → BitVector
init_operand lines row a =
    signed_word a.negated (if kind_at is_constant lines a.line then constant_of lines (slice_get lines a.line) else word_at row a.line)

-- the words at the lines' places meet the lines' equations
pub record Meets (lines : List Line) (row : List BitVector) : Type 0 where
  pub by_line : (i : ℕ) (l : Line) → slice_get lines i ≡ Some l → Equation (take i lines) row l.sort l.op l.args (word_at row i)

-- one word for each line, by the lines' equations
pub record IsFrame (lines : List Line) (row : List BitVector) : Type 0 where
  pub sized : length row ≡ length lines
  pub meets : Meets lines row

-- in frame 0 each state with an init has the init's word
abbrev pub InitsHold : List Line → List BitVector → Type 0
InitsHold lines row =
    (s : ℕ) (a : Arg) → state_value is_init lines s ≡ Some a → word_at row s ≡ operand row a

-- each state with a next has the next's word of the frame before
abbrev pub NextsHold : List Line → List BitVector → List BitVector → Type 0
NextsHold lines row next =
    (s : ℕ) (a : Arg) → state_value is_next lines s ≡ Some a → word_at next s ≡ operand row a

-- the word of every constraint is 1
abbrev pub ConstraintsHold : List Line → List BitVector → Type 0
ConstraintsHold lines row =
    AllByRecursion (λ a. operand row a ≡ true_word) (operands is_constraint lines)

-- there is a bad line of number j, and its word is 1
abbrev pub IsBad : List Line → List BitVector → ℕ → Type 0
IsBad lines row j = IsSomeAnd (slice_get (operands is_bad lines) j) (λ a. operand row a ≡ true_word)

-- the frames that come after a frame
abbrev pub Follow : List Line → List BitVector → List (List BitVector) → Type 0
Follow lines row [] = Unit {0}
Follow lines row (next ∷ rest) = IsFrame lines next × NextsHold lines row next × Follow lines next rest

-- frames 0 to k, whether or not the constraints hold
abbrev pub IsPath : List Line → List (List BitVector) → Type 0
IsPath lines [] = ⊥
IsPath lines (row ∷ rest) = IsFrame lines row × InitsHold lines row × Follow lines row rest

-- frames 0 to k with every constraint true
abbrev pub AreFrames : List Line → List (List BitVector) → Type 0
AreFrames lines rows = IsPath lines rows × AllByRecursion (ConstraintsHold lines) rows
