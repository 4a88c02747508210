-- The value that an operator gives (SMT-LIB 2.6, theories Core and FixedSizeBitVectors), by the operator table.
use Rattle.std.specs.Prelude.{◌==◌, Bool, true, false, not, ◌&&◌, ◌||◌, if◌then◌else◌, List, [], ◌∷◌}
use Rattle.std.specs.List.{list_all, list_any}
use Rattle.word_core.specs.Words.{BitVector}
use Rattle.word_core.specs.Table.{unary_of, binary_of, slice_of, uext_of, sext_of}
use Rattle.word_core.specs.declared.kinds.Binary.{Binary}
use Rattle.word_core.specs.declared.kinds.Binary.TheVariants as words
use Rattle.moxi_terms.specs.declared.data.Datum.{Datum}
use Rattle.moxi_terms.specs.declared.data.Datum.TheVariants.{Truth, Bits, Constant}
use Rattle.moxi_terms.specs.declared.data.TermOp.{TermOp}
use Rattle.moxi_terms.specs.declared.data.TermOp.TheVariants as op

-- what stands where no value is
abbrev pub nothing : Datum
nothing = Truth false

abbrev pub truth_of : Datum → Bool
truth_of (Truth b) = b
truth_of d = false

abbrev pub word_of : Datum → BitVector
word_of (Bits w) = w
word_of d = record { width = 1; bits = 0 }

abbrev pub same_truth : Bool → Bool → Bool
same_truth true b = b
same_truth false b = not b

-- one value: of one kind, and with the same parts
abbrev pub same : Datum → Datum → Bool
same (Truth a) (Truth b) = same_truth a b
same (Bits v) (Bits w) = (v.width == w.width) && (v.bits == w.bits)
same (Constant n i) (Constant m j) = (n == m) && (i == j)
same d e = false

-- each is the same as the next one
abbrev pub all_equal : Datum → List Datum → Bool
all_equal v [] = true
all_equal v (w ∷ ws) = same v w && all_equal w ws

-- no two are the same
abbrev pub all_differ : List Datum → Bool
all_differ [] = true
all_differ (v ∷ vs) = not (list_any (same v) vs) && all_differ vs

-- an odd number of them, with this one before them, is true
abbrev pub parity : Bool → List Datum → Bool
parity b [] = b
parity b (v ∷ vs) = parity (not (same_truth b (truth_of v))) vs

-- a chain of implications is read from the right
abbrev pub implied : Datum → List Datum → Bool
implied v [] = truth_of v
implied v (w ∷ ws) = not (truth_of v) || implied w ws

-- from the left
abbrev pub folded : Binary → BitVector → List Datum → BitVector
folded b w [] = w
folded b w (v ∷ vs) = folded b (binary_of b w (word_of v)) vs

-- the operators whose word of one bit is a truth value
abbrev pub is_comparison : Binary → Bool
is_comparison words.Ult = true
is_comparison words.Ulte = true
is_comparison words.Ugt = true
is_comparison words.Ugte = true
is_comparison words.Slt = true
is_comparison words.Slte = true
is_comparison words.Sgt = true
is_comparison words.Sgte = true
is_comparison b = false

-- the value of an operator on two or more words
abbrev pub on_words : Binary → BitVector → List Datum → Datum
on_words b w vs = if is_comparison b then Truth ((folded b w vs).bits == 1) else Bits (folded b w vs)

-- the value that an operator gives
abbrev pub op_value : TermOp → List Datum → Datum
op_value op.Not (a ∷ []) = Truth (not (truth_of a))
op_value op.And vs = Truth (list_all truth_of vs)
op_value op.Or vs = Truth (list_any truth_of vs)
op_value op.Xor vs = Truth (parity false vs)
op_value op.Implies (v ∷ vs) = Truth (implied v vs)
op_value op.Equal (v ∷ vs) = Truth (all_equal v vs)
op_value op.Distinct vs = Truth (all_differ vs)
op_value op.Ite (c ∷ a ∷ b ∷ []) = if truth_of c then a else b
op_value op.Concat (a ∷ b ∷ []) = Bits (binary_of words.Concat (word_of a) (word_of b))
op_value (op.Extract high low) (a ∷ []) = Bits (slice_of (word_of a) high low)
op_value (op.ZeroExtend n) (a ∷ []) = Bits (uext_of (word_of a) n)
op_value (op.SignExtend n) (a ∷ []) = Bits (sext_of (word_of a) n)
op_value (op.BvUnary u) (a ∷ []) = Bits (unary_of u (word_of a))
op_value (op.BvBinary b) (v ∷ vs) = on_words b (word_of v) vs
op_value o vs = nothing
