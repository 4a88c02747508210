-- Which lines may follow which (BTOR2, CAV 2018, section 2 and figure 1).
use Rattle.std.specs.Prelude.{◌≡◌, ◌≢◌, ◌⊎◌, ℕ, suc, ◌+◌, ◌<◌, ◌≤◌, Bool, true, false, List, [], ◌∷◌, ◌++◌, length, take, ◌-◌, Option, Some, None, option_map, slice_get, IfSome, if◌then◌else◌, ◌==◌}
use Rattle.std.specs.Option.{option_map_or, option_or}
use Rattle.std.specs.List.{AllByRecursion}
use Rattle.word_core.specs.declared.word.TheConstants.{WIDEST}
use Rattle.word_core.specs.Words.{IsWord}
use Rattle.word_core.specs.Table.{unary_width, BinaryFits, binary_width}
use Rattle.btor_tree.specs.declared.args.Arg.{Arg}
use Rattle.btor_tree.specs.declared.lines.Line.{Line}
use Rattle.btor_tree.specs.declared.lines.LineOp.{LineOp}
use Rattle.btor_tree.specs.declared.lines.LineOp.TheVariants.{Sort, Input, State, Constant, One, Zero, Ones, Init, Next, Bad, Constraint, Output, Unary, Binary, Ite, Slice, Uext, Sext}

-- the word of the line at a place, as it is
abbrev pub plain_arg : ℕ → Arg
plain_arg i = record { line = i; negated = false }

-- a fact of the only argument
abbrev pub OnOne : List Arg → (Arg → Type 0) → Type 0
OnOne (a ∷ []) P = P a
OnOne args P = ⊥

-- a fact of the only two arguments
abbrev pub OnTwo : List Arg → (Arg → Arg → Type 0) → Type 0
OnTwo (a ∷ b ∷ []) P = P a b
OnTwo args P = ⊥

-- a fact of the only three arguments
abbrev pub OnThree : List Arg → (Arg → Arg → Arg → Type 0) → Type 0
OnThree (a ∷ b ∷ c ∷ []) P = P a b c
OnThree args P = ⊥

-- the width that a sort line gives, or 0 at other lines
abbrev pub sort_width : LineOp → ℕ
sort_width (Sort w) = w
sort_width op = 0

-- does a line of this kind have a word?
abbrev pub has_word : LineOp → Bool
has_word (Sort w) = false
has_word Init = false
has_word Next = false
has_word Bad = false
has_word Constraint = false
has_word Output = false
has_word op = true

abbrev pub is_input : LineOp → Bool
is_input Input = true
is_input op = false

abbrev pub is_state : LineOp → Bool
is_state State = true
is_state op = false

-- a line whose word is fixed by the line alone
abbrev pub is_constant : LineOp → Bool
is_constant (Constant c) = true
is_constant One = true
is_constant Zero = true
is_constant Ones = true
is_constant op = false

abbrev pub is_init : LineOp → Bool
is_init Init = true
is_init op = false

abbrev pub is_next : LineOp → Bool
is_next Next = true
is_next op = false

abbrev pub is_bad : LineOp → Bool
is_bad Bad = true
is_bad op = false

abbrev pub is_constraint : LineOp → Bool
is_constraint Constraint = true
is_constraint op = false

-- how many lines are of a kind
abbrev pub count_of : (LineOp → Bool) → List Line → ℕ
count_of kind [] = 0
count_of kind (l ∷ ls) = (if kind l.op then 1 else 0) + count_of kind ls

-- is there a line at the place, and is it of this kind?
abbrev pub kind_at : (LineOp → Bool) → List Line → ℕ → Bool
kind_at kind lines i = option_map_or (λ (l : Line). kind l.op) (slice_get lines i) false

-- the width of the sort line at a place, or 0 where there is none
abbrev pub sort_at : List Line → ℕ → ℕ
sort_at lines s = option_map_or (λ (l : Line). sort_width l.op) (slice_get lines s) 0

-- the width of a line's word, or 0 where it has none
abbrev pub line_width : List Line → Line → ℕ
line_width lines l = if has_word l.op then sort_at lines l.sort else 0

-- the width of the word of the line at a place, or 0 where it has none
abbrev pub width_at : List Line → ℕ → ℕ
width_at lines i = option_map_or (line_width lines) (slice_get lines i) 0

-- the value that a line of arguments `state value` gives to a state
abbrev pub value_for : List Arg → ℕ → Option Arg
value_for (x ∷ v ∷ []) s = if x.line == s then Some v else None
value_for args s = None

abbrev pub value_in : (LineOp → Bool) → Line → ℕ → Option Arg
value_in kind l s = if kind l.op then value_for l.args s else None

-- what the lines of a kind (init or next) give to a state
abbrev pub state_value : (LineOp → Bool) → List Line → ℕ → Option Arg
state_value kind [] s = None
state_value kind (l ∷ ls) s = option_or (value_in kind l s) (state_value kind ls s)

-- the arguments of the lines of a kind, in order
abbrev pub operands : (LineOp → Bool) → List Line → List Arg
operands kind [] = []
operands kind (l ∷ ls) = (if kind l.op then l.args else []) ++ operands kind ls

-- all arguments are before place n
abbrev pub AreEarlier : ℕ → List Arg → Type 0
AreEarlier n [] = Unit {0}
AreEarlier n (a ∷ more) = (a.line < n) × AreEarlier n more

-- `state value`: a state that has none yet of this kind, as it is, and a value of its width; s is a sort of that width
abbrev pub GivesValue : (LineOp → Bool) → List Line → ℕ → Arg → Arg → Type 0
GivesValue kind before s x v =
    (kind_at is_state before x.line ≡ true) × (x.negated ≡ false) × (1 ≤ sort_at before s) × (width_at before x.line ≡ sort_at before s) × (width_at before v.line ≡ sort_at before s) × (state_value kind before x.line ≡ None)

-- an init's value is before its state, or is a constant line
abbrev pub InitRule : List Line → Arg → Arg → Type 0
InitRule before x v = (v.line < x.line) ⊎ (kind_at is_constant before v.line ≡ true)

-- the number of arguments, and the sorts, fit the line's row (BTOR2, table 1); inputs, states and the constants one, zero and
-- ones have a sort alone
abbrev pub OpFits : List Line → ℕ → LineOp → List Arg → Type 0
OpFits before s (Sort w) args = (1 ≤ w) × (w ≤ WIDEST) × (s ≡ 0) × (args ≡ [])
OpFits before s (Constant c) args = IsWord c × (c.width ≡ sort_at before s) × (args ≡ [])
OpFits before s Init args = OnTwo args (λ x v. GivesValue is_init before s x v × InitRule before x v)
OpFits before s Next args = OnTwo args (λ x v. GivesValue is_next before s x v)
OpFits before s Bad args = (s ≡ 0) × OnOne args (λ a. width_at before a.line ≡ 1)
OpFits before s Constraint args = (s ≡ 0) × OnOne args (λ a. width_at before a.line ≡ 1)
OpFits before s Output args = (s ≡ 0) × OnOne args (λ a. 1 ≤ width_at before a.line)
OpFits before s (Unary op) args =
    (1 ≤ sort_at before s) × OnOne args (λ a. (1 ≤ width_at before a.line) × (unary_width op (width_at before a.line) ≡ sort_at before s))
OpFits before s (Binary op) args =
    (1 ≤ sort_at before s) × OnTwo args (λ a b. (1 ≤ width_at before a.line) × (1 ≤ width_at before b.line) × BinaryFits op (width_at before a.line) (width_at before b.line) × (binary_width op (width_at before a.line) (width_at before b.line) ≡ sort_at before s))
OpFits before s Ite args =
    (1 ≤ sort_at before s) × OnThree args (λ c a b. (width_at before c.line ≡ 1) × (width_at before a.line ≡ sort_at before s) × (width_at before b.line ≡ sort_at before s))
OpFits before s (Slice high low) args =
    (1 ≤ sort_at before s) × OnOne args (λ a. (low ≤ high) × (high < width_at before a.line) × (high - low + 1 ≡ sort_at before s))
OpFits before s (Uext n) args = (1 ≤ sort_at before s) × OnOne args (λ a. (1 ≤ width_at before a.line) × (width_at before a.line + n ≡ sort_at before s))
OpFits before s (Sext n) args = (1 ≤ sort_at before s) × OnOne args (λ a. (1 ≤ width_at before a.line) × (width_at before a.line + n ≡ sort_at before s))
OpFits before s op args = (1 ≤ sort_at before s) × (args ≡ [])

-- a byte of a symbol: no tab, line end, CR, blank or `;`
abbrev pub IsSymbolByte : ℕ → Type 0
IsSymbolByte b = (b ≢ 9) × (b ≢ 10) × (b ≢ 13) × (b ≢ 32) × (b ≢ 59)

-- one or more such bytes
abbrev pub IsSymbol : List ℕ → Type 0
IsSymbol bytes = (1 ≤ length bytes) × AllByRecursion IsSymbolByte bytes

-- what a line says, but for its id, may follow these lines
pub record Suits (before : List Line) (op : LineOp) (sort : ℕ) (args : List Arg) (name : Option (List ℕ)) : Type 0 where
  pub earlier : AreEarlier (length before) args
  pub sorts : OpFits before sort op args
  pub symbol : IfSome name IsSymbol

-- the greatest id of a line, 2^31 - 1
abbrev pub greatest_id : ℕ
greatest_id = 2147483647

-- the id of the last line, or 0
abbrev pub last_id : List Line → ℕ
last_id [] = 0
last_id (l ∷ []) = l.id
last_id (l ∷ m ∷ ls) = last_id (m ∷ ls)

-- a line that may follow these
pub record Fits (before : List Line) (l : Line) : Type 0 where
  pub rises : last_id before < l.id
  pub small : l.id ≤ greatest_id
  pub body : Suits before l.op l.sort l.args l.symbol

-- each line may follow the ones before it
pub record IsWellFormed (lines : List Line) : Type 0 where
  pub by_line : (i : ℕ) (l : Line) → slice_get lines i ≡ Some l → Fits (take i lines) l

-- the place of the sort line of the line at a place
abbrev pub sort_of_line : Option Line → ℕ
sort_of_line None = 0
sort_of_line (Some l) = l.sort

abbrev pub sort_of : List Line → ℕ → ℕ
sort_of lines i = sort_of_line (slice_get lines i)

-- the place of the first sort line of a width
abbrev pub sort_place : List Line → ℕ → Option ℕ
sort_place [] w = None
sort_place (l ∷ ls) w = if sort_width l.op == w then Some 0 else option_map suc (sort_place ls w)

-- the sort line of a width
abbrev pub sort_line : ℕ → ℕ → Line
sort_line id w = record { id = id; op = Sort w; sort = 0; args = []; symbol = None }

-- p is the place of a sort of width w, the first that is there or one made now
abbrev pub SortIsAt : Option ℕ → List Line → ℕ → ℕ → List Line → Type 0
SortIsAt (Some there) old w p new = (p ≡ there) × (new ≡ old)
SortIsAt None old w p new = (p ≡ length old) × (new ≡ old ++ sort_line (length old + 1) w ∷ [])
