-- The printed form of lines: single blanks, no comments, and byte 10 at the end of each line.
use Rattle.std.specs.Prelude.{ℕ, List, [], ◌∷◌, ◌++◌, Option, Some, None, slice_get, codes, decimal, map, if◌then◌else◌}
use Rattle.std.specs.List.{flat_map}
use Rattle.text_core.specs.Binary.{binary_digits}
use Rattle.btor_tree.specs.declared.args.Arg.{Arg}
use Rattle.btor_tree.specs.declared.lines.Line.{Line}
use Rattle.btor_tree.specs.declared.lines.LineOp.{LineOp}
use Rattle.btor_tree.specs.declared.lines.LineOp.TheVariants.{Sort, Input, State, Constant, One, Zero, Ones, Init, Next, Bad, Constraint, Output, Unary, Binary, Ite, Slice, Uext, Sext}
use Rattle.btor_tree.specs.Parts.{Parts}
use Rattle.btor_tree.specs.Shapes.{unary_text, binary_text, symbol_parts}

-- the id of a line, or 0 where there is none
abbrev pub id_of : Option Line → ℕ
id_of None = 0
id_of (Some l) = l.id

-- the id of the line at a place
abbrev pub id_at : List Line → ℕ → ℕ
id_at lines i = id_of (slice_get lines i)

-- the id of an argument, behind `-` where its word is negated
abbrev pub operand_text : List Line → Arg → List ℕ
operand_text lines a = if a.negated then (45 ∷ decimal (id_at lines a.line)) else decimal (id_at lines a.line)

-- the word of a line
abbrev pub op_text : LineOp → List ℕ
op_text (Sort w) = codes "sort"
op_text Input = codes "input"
op_text State = codes "state"
op_text (Constant c) = codes "const"
op_text One = codes "one"
op_text Zero = codes "zero"
op_text Ones = codes "ones"
op_text Init = codes "init"
op_text Next = codes "next"
op_text Bad = codes "bad"
op_text Constraint = codes "constraint"
op_text Output = codes "output"
op_text (Unary op) = unary_text op
op_text (Binary op) = binary_text op
op_text Ite = codes "ite"
op_text (Slice high low) = codes "slice"
op_text (Uext n) = codes "uext"
op_text (Sext n) = codes "sext"

-- what is between the word of a line and its arguments: the id of its sort, in most lines, and the digits of a constant
abbrev pub sort_parts : List Line → LineOp → ℕ → Parts
sort_parts lines (Sort w) s = codes "bitvec" ∷ decimal w ∷ []
sort_parts lines (Constant c) s = decimal (id_at lines s) ∷ binary_digits c.width c.bits ∷ []
sort_parts lines Bad s = []
sort_parts lines Constraint s = []
sort_parts lines Output s = []
sort_parts lines op s = decimal (id_at lines s) ∷ []

-- the numbers behind the operand of a line
abbrev pub number_parts : LineOp → Parts
number_parts (Slice high low) = decimal high ∷ decimal low ∷ []
number_parts (Uext n) = decimal n ∷ []
number_parts (Sext n) = decimal n ∷ []
number_parts op = []

-- the parts of a line behind its id
abbrev pub printed_rest : List Line → Line → Parts
printed_rest lines l = op_text l.op ∷ (sort_parts lines l.op l.sort ++ (map (operand_text lines) l.args ++ (number_parts l.op ++ symbol_parts l.symbol)))

-- each part behind a single blank
abbrev pub spaced : Parts → List ℕ
spaced = flat_map (λ p. 32 ∷ p)

-- a line: its id, its parts, and byte 10
abbrev pub line_text : List Line → Line → List ℕ
line_text lines l = decimal l.id ++ spaced (printed_rest lines l) ++ 10 ∷ []

-- the lines in order, with the ids of sorts and arguments looked up in the whole list
abbrev pub printed : List Line → List ℕ
printed lines = flat_map (line_text lines) lines
