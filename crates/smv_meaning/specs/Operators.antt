-- The operators on values (NuSMV 2.6 User Manual, 2.2): integers are whole numbers, words are numbers modulo two to their
-- width, by the operator table of BTOR2. Where operands don't fit an operator there is no value.
use Rattle.std.specs.Prelude.{ℕ, ◌+◌, ◌-◌, ◌%◌, ◌^◌, Bool, not, ◌&&◌, ◌||◌, ◌==◌, nat_lt, nat_le, if◌then◌else◌, ℤ, pos, ◌+ℤ◌, ◌-ℤ◌, ◌*ℤ◌, neg_ℤ, int_lt, int_le, int_div, List, [], ◌∷◌}
use Rattle.std.specs.Int.{int_min, int_max}
use Rattle.word_core.specs.Words.{BitVector}
use Rattle.word_core.specs.Table.{bit_of, unary_of, binary_of, binary_bits, slice_of, uext_of}
use Rattle.word_core.specs.declared.word.TheConstants.{WIDEST}
use Rattle.word_core.specs.declared.kinds.Unary.TheVariants as OnWord
use Rattle.word_core.specs.declared.kinds.Binary.{Binary}
use Rattle.word_core.specs.declared.kinds.Binary.TheVariants as OnWords
use Rattle.smv_text.specs.declared.operators.Prefix.{Prefix}
use Rattle.smv_text.specs.declared.operators.Prefix.TheVariants as OfPrefix
use Rattle.smv_text.specs.declared.operators.Infix.{Infix}
use Rattle.smv_text.specs.declared.operators.Infix.TheVariants.{Implies, Iff, Or, Xor, Xnor, And, Equal, Unequal, Less, Greater, LessEq, GreaterEq, Member, Union, ShiftLeft, ShiftRight, Plus, Minus, Times, Divide, Mod, Concat}
use Rattle.smv_text.specs.declared.operators.Function.{Function}
use Rattle.smv_text.specs.declared.operators.Function.TheVariants as OfFunction
use Rattle.smv_meaning.specs.declared.value.Value.{Value}
use Rattle.smv_meaning.specs.declared.value.Value.TheVariants.{Truth, Integer, Bits}
use Rattle.smv_meaning.specs.Values.{no_value, is_true, bool_eq, value_same}

abbrev pub word : ℕ → ℕ → BitVector
word width bits = record { width = width; bits = bits }

-- the word of an operator's row, for words of one width
abbrev pub words_by : Binary → BitVector → BitVector → Value
words_by op v w = if v.width == w.width then Bits (binary_of op v w) else no_value

-- the truth of a comparison's row, for words of one width
abbrev pub words_compared : Binary → BitVector → BitVector → Value
words_compared op v w =
    if v.width == w.width then Truth (binary_bits op v.width w.width v.bits w.bits == 1) else no_value

-- two operands of one kind
pub data Operands : Type 0 where
  truths : Bool → Bool → Operands
  integers : ℤ → ℤ → Operands
  words : BitVector → BitVector → Operands
  mixed : Operands

abbrev pub operands_of : Value → Value → Operands
operands_of (Truth a) (Truth b) = truths a b
operands_of (Integer a) (Integer b) = integers a b
operands_of (Bits v) (Bits w) = words v w
operands_of a b = mixed

abbrev pub logical_of : (Bool → Bool → Bool) → Binary → Operands → Value
logical_of f op (truths a b) = Truth (f a b)
logical_of f op (words v w) = words_by op v w
logical_of f op o = no_value

abbrev pub compared_of : (ℤ → ℤ → Bool) → Binary → Operands → Value
compared_of f op (integers a b) = Truth (f a b)
compared_of f op (words v w) = words_compared op v w
compared_of f op o = no_value

abbrev pub calculated_of : (ℤ → ℤ → ℤ) → Binary → Operands → Value
calculated_of f op (integers a b) = Integer (f a b)
calculated_of f op (words v w) = words_by op v w
calculated_of f op o = no_value

-- of truth values, or of words bit by bit
abbrev pub logical : (Bool → Bool → Bool) → Binary → Value → Value → Value
logical f op a b = logical_of f op (operands_of a b)

-- of integers, or of words as unsigned numbers
abbrev pub compared : (ℤ → ℤ → Bool) → Binary → Value → Value → Value
compared f op a b = compared_of f op (operands_of a b)

abbrev pub calculated : (ℤ → ℤ → ℤ) → Binary → Value → Value → Value
calculated f op a b = calculated_of f op (operands_of a b)

-- by a number from 0 to the width; zeros come in
abbrev pub shifted : Binary → Value → Value → Value
shifted op (Bits v) (Integer (pos n)) =
    if nat_le n v.width then Bits (binary_of op v (word v.width n)) else no_value
shifted op a b = no_value

-- the left word is the high part
abbrev pub concatenated : Value → Value → Value
concatenated (Bits v) (Bits w) = if nat_le (v.width + w.width) WIDEST then Bits (binary_of OnWords.Concat v w) else no_value
concatenated a b = no_value

abbrev pub negation : Value → Value
negation (Truth b) = Truth (not b)
negation (Bits v) = Bits (unary_of OnWord.Not v)
negation v = no_value

abbrev pub minus : Value → Value
minus (Integer a) = Integer (neg_ℤ a)
minus (Bits v) = Bits (unary_of OnWord.Neg v)
minus v = no_value

-- `a -> b` is `!a | b`
abbrev pub implied : Value → Value → Value
implied a b = logical (λ p q. p || q) OnWords.Or (negation a) b

-- the rest that belongs to a quotient cut toward zero
abbrev pub int_mod : ℤ → ℤ → ℤ
int_mod a b = a -ℤ (int_div a b *ℤ b)

-- an operator between two values; sets are not values
abbrev pub applied : Infix → Value → Value → Value
applied Implies a b = implied a b
applied Iff a b = logical bool_eq OnWords.Xnor a b
applied Or a b = logical (λ p q. p || q) OnWords.Or a b
applied Xor a b = logical (λ p q. not (bool_eq p q)) OnWords.Xor a b
applied Xnor a b = logical bool_eq OnWords.Xnor a b
applied And a b = logical (λ p q. p && q) OnWords.And a b
applied Equal a b = Truth (value_same a b)
applied Unequal a b = Truth (not (value_same a b))
applied Less a b = compared int_lt OnWords.Ult a b
applied Greater a b = compared (λ x y. int_lt y x) OnWords.Ugt a b
applied LessEq a b = compared int_le OnWords.Ulte a b
applied GreaterEq a b = compared (λ x y. int_le y x) OnWords.Ugte a b
applied Member a b = no_value
applied Union a b = no_value
applied ShiftLeft a b = shifted OnWords.Sll a b
applied ShiftRight a b = shifted OnWords.Srl a b
applied Plus a b = calculated (λ x y. x +ℤ y) OnWords.Add a b
applied Minus a b = calculated (λ x y. x -ℤ y) OnWords.Sub a b
applied Times a b = calculated (λ x y. x *ℤ y) OnWords.Mul a b
applied Divide a b = calculated int_div OnWords.Udiv a b
applied Mod a b = calculated int_mod OnWords.Urem a b
applied Concat a b = concatenated a b

-- a sign that stands so many times: only an odd number of them changes the value
abbrev pub signed : Prefix → ℕ → Value → Value
signed OfPrefix.Not n v = if n % 2 == 1 then negation v else v
signed OfPrefix.Minus n v = if n % 2 == 1 then minus v else v

-- the bits from high to low
abbrev pub selected : ℕ → ℕ → Value → Value
selected high low (Bits v) = if nat_le low high && nat_lt high v.width then Bits (slice_of v high low) else no_value
selected high low v = no_value

-- the low part of a word, or the word with zeros in front
abbrev pub resized : BitVector → ℕ → BitVector
resized v n = if nat_lt n v.width then slice_of v (n - 1) 0 else uext_of v (n - v.width)

abbrev pub trues : List Value → ℕ
trues [] = 0
trues (v ∷ vs) = if is_true v then trues vs + 1 else trues vs

abbrev pub int_abs : ℤ → ℤ
int_abs a = if int_lt a (pos 0) then neg_ℤ a else a

abbrev pub is_width : ℕ → Bool
is_width n = nat_le 1 n && nat_le n WIDEST

-- a function of its arguments
abbrev pub called : Function → List Value → Value
called OfFunction.Bool (Bits v ∷ []) = Truth (v.bits == 1)
called OfFunction.Word1 (Truth b ∷ []) = Bits (word 1 (bit_of b))
called OfFunction.Toint (Bits v ∷ []) = Integer (pos v.bits)
called OfFunction.Uwconst (Integer (pos v) ∷ Integer (pos n) ∷ []) =
    if is_width n && nat_lt v (2 ^ n) then Bits (word n v) else no_value
called OfFunction.Extend (Bits v ∷ Integer (pos n) ∷ []) =
    if nat_le (v.width + n) WIDEST then Bits (uext_of v n) else no_value
called OfFunction.Resize (Bits v ∷ Integer (pos n) ∷ []) = if is_width n then Bits (resized v n) else no_value
called OfFunction.Count vs = Integer (pos (trues vs))
called OfFunction.Max (Integer a ∷ Integer b ∷ []) = Integer (int_max a b)
called OfFunction.Min (Integer a ∷ Integer b ∷ []) = Integer (int_min a b)
called OfFunction.Abs (Integer a ∷ []) = Integer (int_abs a)
called f vs = no_value
