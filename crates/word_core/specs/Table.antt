-- The operator table of BTOR2 (CAV 2018, table 1), by whole numbers and their signed values: of each operator the widths
-- that it asks for, and the width and the number of its result.
use Rattle.std.specs.Prelude.{◌≡◌, ℕ, ◌+◌, ◌-◌, ◌*◌, ◌/◌, ◌%◌, ◌^◌, ◌≤◌, min, Bool, true, false, not, bit_and, bit_or, bit_xor, count_ones, if◌then◌else◌, ◌==◌, nat_lt, nat_le, ℤ, pos, ◌-ℤ◌, int_lt, int_le}
use Rattle.word_core.specs.Words.{BitVector}
use Rattle.word_core.specs.declared.word.TheConstants.{WIDEST}
use Rattle.word_core.specs.declared.kinds.Unary.{Unary}
use Rattle.word_core.specs.declared.kinds.Unary.TheVariants.{Not, Inc, Dec, Neg, RedAnd, RedOr, RedXor}
use Rattle.word_core.specs.declared.kinds.Binary.{Binary}
use Rattle.word_core.specs.declared.kinds.Binary.TheVariants.{Iff, Implies, Eq, Neq, Sgt, Sgte, Slt, Slte, Ugt, Ugte, Ult, Ulte, And, Nand, Nor, Or, Xnor, Xor, Sll, Srl, Sra, Add, Sub, Mul, Udiv, Sdiv, Urem, Srem, Smod, Concat}

-- the number that a word stands for in two's complement
abbrev pub signed_value : ℕ → ℕ → ℤ
signed_value w a = if nat_lt a (2 ^ (w - 1)) then pos a else pos a -ℤ pos (2 ^ w)

-- its sign is minus
abbrev pub is_minus : ℕ → ℕ → Bool
is_minus w a = nat_le (2 ^ (w - 1)) a

-- minus the number, modulo two to the width
abbrev pub negated : ℕ → ℕ → ℕ
negated w a = (2 ^ w - a) % 2 ^ w

-- the number, negated where this holds
abbrev pub negated_if : Bool → ℕ → ℕ → ℕ
negated_if minus w a = if minus then negated w a else a

-- the magnitude of the signed value
abbrev pub magnitude : ℕ → ℕ → ℕ
magnitude w a = negated_if (is_minus w a) w a

-- one bit
abbrev pub bit_of : Bool → ℕ
bit_of b = if b then 1 else 0

-- the quotient, cut, and all ones for the divisor 0
abbrev pub quotient : ℕ → ℕ → ℕ → ℕ
quotient w a b = if b == 0 then 2 ^ w - 1 else a / b

-- the rest, and the number itself for the divisor 0
abbrev pub rest : ℕ → ℕ → ℕ
rest a b = if b == 0 then a else a % b

-- the rest of magnitudes, given the divisor's sign
abbrev pub modulus : ℕ → ℕ → ℕ → ℕ → ℕ
modulus w a b u =
    if u == 0 then 0 else (if is_minus w a then (if is_minus w b then negated w u else (negated w u + b) % 2 ^ w) else (if is_minus w b then (u + b) % 2 ^ w else u))

-- the result's width, for an argument of width w
abbrev pub unary_width : Unary → ℕ → ℕ
unary_width RedAnd w = 1
unary_width RedOr w = 1
unary_width RedXor w = 1
unary_width op w = w

-- the result's number, for an argument of width w
abbrev pub unary_bits : Unary → ℕ → ℕ → ℕ
unary_bits Not w a = 2 ^ w - 1 - a
unary_bits Inc w a = (a + 1) % 2 ^ w
unary_bits Dec w a = (a + (2 ^ w - 1)) % 2 ^ w
unary_bits Neg w a = negated w a
unary_bits RedAnd w a = bit_of (a == 2 ^ w - 1)
unary_bits RedOr w a = bit_of (not (a == 0))
unary_bits RedXor w a = count_ones a % 2

-- the operator's row of the table
abbrev pub unary_of : Unary → BitVector → BitVector
unary_of op a = record { width = unary_width op a.width; bits = unary_bits op a.width a.bits }

-- the widths that the row asks for
abbrev pub BinaryFits : Binary → ℕ → ℕ → Type 0
BinaryFits Iff v w = (v ≡ 1) × (w ≡ 1)
BinaryFits Implies v w = (v ≡ 1) × (w ≡ 1)
BinaryFits Concat v w = v + w ≤ WIDEST
BinaryFits op v w = v ≡ w

-- is the result one bit, whatever the widths?
abbrev pub gives_one_bit : Binary → Bool
gives_one_bit Iff = true
gives_one_bit Implies = true
gives_one_bit Eq = true
gives_one_bit Neq = true
gives_one_bit Sgt = true
gives_one_bit Sgte = true
gives_one_bit Slt = true
gives_one_bit Slte = true
gives_one_bit Ugt = true
gives_one_bit Ugte = true
gives_one_bit Ult = true
gives_one_bit Ulte = true
gives_one_bit op = false

-- the result's width: that of both arguments together, one bit, or that of the first argument
abbrev pub binary_width : Binary → ℕ → ℕ → ℕ
binary_width Concat v w = v + w
binary_width op v w = if gives_one_bit op then 1 else v

-- the result's number
abbrev pub binary_bits : Binary → ℕ → ℕ → ℕ → ℕ → ℕ
binary_bits Iff v w a b = bit_of (a == b)
binary_bits Implies v w a b = bit_or (1 - a) b
binary_bits Eq v w a b = bit_of (a == b)
binary_bits Neq v w a b = bit_of (not (a == b))
binary_bits Sgt v w a b = bit_of (int_lt (signed_value w b) (signed_value v a))
binary_bits Sgte v w a b = bit_of (int_le (signed_value w b) (signed_value v a))
binary_bits Slt v w a b = bit_of (int_lt (signed_value v a) (signed_value w b))
binary_bits Slte v w a b = bit_of (int_le (signed_value v a) (signed_value w b))
binary_bits Ugt v w a b = bit_of (nat_lt b a)
binary_bits Ugte v w a b = bit_of (nat_le b a)
binary_bits Ult v w a b = bit_of (nat_lt a b)
binary_bits Ulte v w a b = bit_of (nat_le a b)
binary_bits And v w a b = bit_and a b
binary_bits Nand v w a b = 2 ^ v - 1 - bit_and a b
binary_bits Nor v w a b = 2 ^ v - 1 - bit_or a b
binary_bits Or v w a b = bit_or a b
binary_bits Xnor v w a b = 2 ^ v - 1 - bit_xor a b
binary_bits Xor v w a b = bit_xor a b
binary_bits Sll v w a b = if nat_lt b v then (a * 2 ^ b) % 2 ^ v else 0
binary_bits Srl v w a b = if nat_lt b v then a / 2 ^ b else 0
-- the signed value, divided by two to b and rounded down
binary_bits Sra v w a b = if is_minus v a then 2 ^ v - 1 - (2 ^ v - 1 - a) / 2 ^ min b v else a / 2 ^ min b v
binary_bits Add v w a b = (a + b) % 2 ^ v
binary_bits Sub v w a b = (a + (2 ^ v - b)) % 2 ^ v
binary_bits Mul v w a b = (a * b) % 2 ^ v
binary_bits Udiv v w a b = quotient v a b
-- the quotient of magnitudes, negated where the signs differ
binary_bits Sdiv v w a b =
    negated_if (if is_minus v a then not (is_minus w b) else is_minus w b) v (quotient v (magnitude v a) (magnitude w b))
binary_bits Urem v w a b = rest a b
-- the rest of magnitudes, with the sign of the number divided
binary_bits Srem v w a b = negated_if (is_minus v a) v (rest (magnitude v a) (magnitude w b))
binary_bits Smod v w a b = modulus v a b (rest (magnitude v a) (magnitude w b))
binary_bits Concat v w a b = a * 2 ^ w + b

-- the operator's row of the table
abbrev pub binary_of : Binary → BitVector → BitVector → BitVector
binary_of op a b =
    record { width = binary_width op a.width b.width; bits = binary_bits op a.width b.width a.bits b.bits }

-- the second word where the condition is one, else the third
abbrev pub ite_of : BitVector → BitVector → BitVector → BitVector
ite_of c a b = if c.bits == 1 then a else b

-- the bits from high to low
abbrev pub slice_of : BitVector → ℕ → ℕ → BitVector
slice_of a high low = record { width = high - low + 1; bits = (a.bits / 2 ^ low) % 2 ^ (high - low + 1) }

-- zeros in front
abbrev pub uext_of : BitVector → ℕ → BitVector
uext_of a count = record { width = a.width + count; bits = a.bits }

-- the sign in front
abbrev pub sext_of : BitVector → ℕ → BitVector
sext_of a count =
    record { width = a.width + count; bits = if is_minus a.width a.bits then a.bits + (2 ^ (a.width + count) - 2 ^ a.width) else a.bits }
