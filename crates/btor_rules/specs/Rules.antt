-- What becomes of an operator line by its operands: the table of rules.
use Rattle.std.specs.Prelude.{◌≡◌, ◌==◌, ◌+◌, ◌-◌, ◌^◌, ◌≤◌, ◌<◌, ℕ, Bool, true, false, not, ◌&&◌, ◌||◌, Option, Some, None, option_and_then, List, [], ◌∷◌, if◌then◌else◌, IfSome}
use Rattle.std.specs.Option.{option_map_or}
use Rattle.word_core.specs.Words.{BitVector, IsWord}
use Rattle.word_core.specs.declared.word.TheConstants.{WIDEST}
use Rattle.word_core.specs.Table.{unary_of, binary_of, ite_of, slice_of, uext_of, sext_of, bit_of, BinaryFits}
use Rattle.word_core.specs.declared.kinds.Unary.TheVariants.{Not}
use Rattle.word_core.specs.declared.kinds.Binary.{Binary}
use Rattle.word_core.specs.declared.kinds.Binary.TheVariants.{Iff, Implies, Eq, Neq, And, Or, Xor, Sll, Srl, Sra, Add, Sub}
use Rattle.btor_tree.specs.declared.args.Arg.{Arg}
use Rattle.btor_tree.specs.declared.lines.LineOp.{LineOp}
use Rattle.btor_tree.specs.declared.lines.LineOp.TheVariants.{Unary, Ite, Slice, Uext, Sext}
use Rattle.btor_tree.specs.declared.lines.LineOp.TheVariants as op
use Rattle.btor_tree.specs.Sharing.{same_arg}
use Rattle.btor_rules.specs.declared.operand.Operand.{Operand}
use Rattle.btor_rules.specs.declared.operand.Operands.{Operands}
use Rattle.btor_rules.specs.declared.operand.Operands.TheVariants.{Empty, Single, Pair, Triple}
use Rattle.btor_rules.specs.declared.operand.Outcome.{Outcome}
use Rattle.btor_rules.specs.declared.operand.Outcome.TheVariants.{Stays, Constant, Argument}

-- the bitwise not of an argument
abbrev pub other_sign : Arg → Arg
other_sign a = record { line = a.line; negated = not a.negated }

-- bits of a width
abbrev pub IsSpelled : ℕ → ℕ → Type 0
IsSpelled width bits = let x : BitVector = record { width = width; bits = bits } in IsWord x

-- is the operand the constant of this number?
abbrev pub is_number : ℕ → Operand → Bool
is_number n x = option_map_or (λ (c : BitVector). c.bits == n) x.constant false

-- is the operand the constant of all ones, whose bitwise not is zero?
abbrev pub is_ones : Operand → Bool
is_ones x = option_map_or (λ (c : BitVector). 2 ^ c.width - 1 - c.bits == 0) x.constant false

-- the same line with the same sign
abbrev pub is_same : Operand → Operand → Bool
is_same x y = same_arg x.arg y.arg

-- the same line with the other sign
abbrev pub is_opposite : Operand → Operand → Bool
is_opposite x y = same_arg (other_sign x.arg) y.arg

-- the constant of all zeros
abbrev pub zeros : ℕ → Outcome
zeros width = Constant (record { width = width; bits = 0 })

-- the constant of all ones
abbrev pub ones : ℕ → Outcome
ones width = Constant (record { width = width; bits = 2 ^ width - 1 })

-- the constant of one bit
abbrev pub one_bit : Bool → Outcome
one_bit b = Constant (record { width = 1; bits = bit_of b })

-- the operand in place of the line
abbrev pub as_it_is : Operand → Outcome
as_it_is x = Argument x.arg

abbrev pub and_rule : Operand → Operand → Outcome
and_rule x y =
    if is_same x y || is_ones y then as_it_is x else (if is_ones x then as_it_is y else (if is_number 0 x || is_number 0 y || is_opposite x y then zeros x.width else Stays))

abbrev pub or_rule : Operand → Operand → Outcome
or_rule x y =
    if is_same x y || is_number 0 y then as_it_is x else (if is_number 0 x then as_it_is y else (if is_ones x || is_ones y || is_opposite x y then ones x.width else Stays))

abbrev pub xor_rule : Operand → Operand → Outcome
xor_rule x y =
    if is_same x y then zeros x.width else (if is_opposite x y then ones x.width else (if is_number 0 y then as_it_is x else (if is_number 0 x then as_it_is y else Stays)))

-- whether two words are equal, or, negated, whether they differ
abbrev pub equal_rule : Bool → Operand → Operand → Outcome
equal_rule equal x y = if is_same x y then one_bit equal else (if is_opposite x y then one_bit (not equal) else Stays)

abbrev pub implies_rule : Operand → Operand → Outcome
implies_rule x y =
    if is_number 0 x || is_number 1 y || is_same x y then one_bit true else (if is_number 1 x then as_it_is y else Stays)

abbrev pub add_rule : Operand → Operand → Outcome
add_rule x y = if is_number 0 y then as_it_is x else (if is_number 0 x then as_it_is y else Stays)

abbrev pub sub_rule : Operand → Operand → Outcome
sub_rule x y = if is_number 0 y then as_it_is x else (if is_same x y then zeros x.width else Stays)

abbrev pub shift_rule : Operand → Operand → Outcome
shift_rule x y = if is_number 0 y then as_it_is x else Stays

abbrev pub pair_rule : Binary → Operand → Operand → Outcome
pair_rule And x y = and_rule x y
pair_rule Or x y = or_rule x y
pair_rule Xor x y = xor_rule x y
pair_rule Eq x y = equal_rule true x y
pair_rule Iff x y = equal_rule true x y
pair_rule Neq x y = equal_rule false x y
pair_rule Implies x y = implies_rule x y
pair_rule Add x y = add_rule x y
pair_rule Sub x y = sub_rule x y
pair_rule Sll x y = shift_rule x y
pair_rule Srl x y = shift_rule x y
pair_rule Sra x y = shift_rule x y
pair_rule o x y = Stays

abbrev pub ite_rule : Operand → Operand → Operand → Outcome
ite_rule c x y = if is_number 1 c || is_same x y then as_it_is x else (if is_number 0 c then as_it_is y else Stays)

-- the operand, where the operator changes nothing
abbrev pub kept_where : Bool → Operand → Outcome
kept_where whole x = if whole then as_it_is x else Stays

abbrev pub single_rule : LineOp → Operand → Outcome
single_rule (Unary Not) x = Argument (other_sign x.arg)
single_rule (Slice high low) x = kept_where ((low == 0) && (high + 1 == x.width)) x
single_rule (Uext n) x = kept_where (n == 0) x
single_rule (Sext n) x = kept_where (n == 0) x
single_rule o x = Stays

abbrev pub on_pair : LineOp → Operand → Operand → Outcome
on_pair (op.Binary o) x y = pair_rule o x y
on_pair o x y = Stays

abbrev pub on_triple : LineOp → Operand → Operand → Operand → Outcome
on_triple Ite c x y = ite_rule c x y
on_triple o c x y = Stays

-- the rules for a line whose operands aren't all constants
abbrev pub rule : LineOp → Operands → Outcome
rule o Empty = Stays
rule o (Single x) = single_rule o x
rule o (Pair x y) = on_pair o x y
rule o (Triple c x y) = on_triple o c x y

-- the word of an operator on one constant
abbrev pub folded_single : LineOp → BitVector → Option BitVector
folded_single (Unary u) w = Some (unary_of u w)
folded_single (Slice high low) w = Some (slice_of w high low)
folded_single (Uext n) w = Some (uext_of w n)
folded_single (Sext n) w = Some (sext_of w n)
folded_single o w = None

abbrev pub both : (BitVector → BitVector → BitVector) → Option BitVector → Option BitVector → Option BitVector
both f None b = None
both f (Some x) None = None
both f (Some x) (Some y) = Some (f x y)

abbrev pub all_three : (BitVector → BitVector → BitVector → BitVector) → Option BitVector → Option BitVector → Option BitVector → Option BitVector
all_three f None a b = None
all_three f (Some c) a b = both (f c) a b

abbrev pub folded_pair : LineOp → Option BitVector → Option BitVector → Option BitVector
folded_pair (op.Binary o) a b = both (binary_of o) a b
folded_pair o a b = None

abbrev pub folded_triple : LineOp → Option BitVector → Option BitVector → Option BitVector → Option BitVector
folded_triple Ite c a b = all_three ite_of c a b
folded_triple o c a b = None

-- the word of an operator whose operands are all constants
abbrev pub folded : LineOp → Operands → Option BitVector
folded o Empty = None
folded o (Single x) = option_and_then (folded_single o) x.constant
folded o (Pair x y) = folded_pair o x.constant y.constant
folded o (Triple c x y) = folded_triple o c.constant x.constant y.constant

abbrev pub folded_or : Option BitVector → Outcome → Outcome
folded_or (Some c) other = Constant c
folded_or None other = other

-- what becomes of an operator line: the first rule that fits
abbrev pub outcome : LineOp → Operands → Outcome
outcome o xs = folded_or (folded o xs) (rule o xs)

-- the arguments of operands
abbrev pub args_of : Operands → List Arg
args_of Empty = []
args_of (Single x) = x.arg ∷ []
args_of (Pair x y) = x.arg ∷ y.arg ∷ []
args_of (Triple x y z) = x.arg ∷ y.arg ∷ z.arg ∷ []

-- the width is one of a word, and a constant has it
pub record OperandFits (x : Operand) : Type 0 where
  pub least : 1 ≤ x.width
  pub most : x.width ≤ WIDEST
  pub constant : IfSome x.constant (λ c. IsWord c × (c.width ≡ x.width))

-- the operator takes an operand of this width
abbrev pub TakesWidth : LineOp → ℕ → Type 0
TakesWidth (Slice high low) w = (low ≤ high) × (high < w)
TakesWidth (Uext n) w = w + n ≤ WIDEST
TakesWidth (Sext n) w = w + n ≤ WIDEST
TakesWidth o w = Unit {0}

abbrev pub TakesWidths : LineOp → ℕ → ℕ → Type 0
TakesWidths (op.Binary o) v w = BinaryFits o v w
TakesWidths o v w = Unit {0}

-- the operands' widths are those that the operator asks for
abbrev pub OperandsFit : LineOp → Operands → Type 0
OperandsFit o Empty = Unit {0}
OperandsFit o (Single x) = OperandFits x × TakesWidth o x.width
OperandsFit o (Pair x y) = OperandFits x × OperandFits y × TakesWidths o x.width y.width
OperandsFit o (Triple c x y) = OperandFits c × OperandFits x × OperandFits y × (c.width ≡ 1) × (x.width ≡ y.width)
