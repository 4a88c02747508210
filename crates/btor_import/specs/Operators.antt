-- The terms of MoXI that stand for the words of BTOR2 lines (BTOR2, CAV 2018, table 1; SMT-LIB 2.6, theories Core and
-- FixedSizeBitVectors). Which stand for which is this translator's own.
use Rattle.std.specs.Prelude.{◌==◌, ℕ, zero, suc, ◌+◌, ◌-◌, ◌^◌, false, if◌then◌else◌, List, [], ◌∷◌, slice_index_or}
use Rattle.word_core.specs.declared.kinds.Unary.{Unary}
use Rattle.word_core.specs.declared.kinds.Unary.TheVariants as OnWord
use Rattle.word_core.specs.declared.kinds.Binary.{Binary}
use Rattle.word_core.specs.declared.kinds.Binary.TheVariants as OnWords
use Rattle.btor_tree.specs.declared.args.Arg.{Arg}
use Rattle.btor_tree.specs.declared.lines.LineOp.{LineOp}
use Rattle.btor_tree.specs.declared.lines.LineOp.TheVariants as line
use Rattle.btor_tree.specs.Fits.{plain_arg}
use Rattle.btor_tree.specs.Frame.{constant_word}
use Rattle.moxi_terms.specs.declared.data.Datum.TheVariants as datum
use Rattle.moxi_terms.specs.declared.data.TermOp.TheVariants as op
use Rattle.moxi_terms.specs.Tree.{Tree, constant, variable, apply, trees_of}
use Rattle.moxi_terms.specs.Applications.{one, two, words_term, equal_term, choice_term}

-- ---- applications

-- a word of so many digits
abbrev pub word_term : ℕ → ℕ → Tree
word_term width bits = constant (datum.Bits (record { width = width; bits = bits }))

abbrev pub not_term : Tree → Tree
not_term a = apply (op.BvUnary OnWord.Not) (one a)

-- one bit that is 1 where the formula is true, and one that is 1 where it is false
abbrev pub truth_term : Tree → Tree
truth_term q = choice_term q (word_term 1 1) (word_term 1 0)

abbrev pub falsity_term : Tree → Tree
falsity_term q = choice_term q (word_term 1 0) (word_term 1 1)

-- the formula that a word of one bit is 1
abbrev pub is_one : Tree → Tree
is_one a = equal_term a (word_term 1 1)

-- ---- operators

-- so many bits of a word, from bit i up
abbrev pub bits_from : ℕ → ℕ → Tree → List Tree
bits_from i zero a = []
bits_from i (suc n) a = apply (op.Extract i i) (one a) ∷ bits_from (i + 1) n a

-- the exclusive or of all bits of a word of this width
abbrev pub parity_term : ℕ → Tree → Tree
parity_term width a = if width == 1 then a else apply (op.BvBinary OnWords.Xor) (trees_of (bits_from 0 width a))

-- the operators on a word of this width
abbrev pub unary_term : Unary → ℕ → Tree → Tree
unary_term OnWord.Not width a = not_term a
unary_term OnWord.Neg width a = apply (op.BvUnary OnWord.Neg) (one a)
unary_term OnWord.Inc width a = words_term OnWords.Add a (word_term width 1)
unary_term OnWord.Dec width a = words_term OnWords.Sub a (word_term width 1)
unary_term OnWord.RedAnd width a = truth_term (equal_term a (word_term width (2 ^ width - 1)))
unary_term OnWord.RedOr width a = falsity_term (equal_term a (word_term width 0))
unary_term OnWord.RedXor width a = parity_term width a

-- the operators on two words; the last line is for those that are one operator there too
abbrev pub binary_term : Binary → Tree → Tree → Tree
binary_term OnWords.Iff a b = not_term (words_term OnWords.Xor a b)
binary_term OnWords.Implies a b = words_term OnWords.Or (not_term a) b
binary_term OnWords.Eq a b = truth_term (equal_term a b)
binary_term OnWords.Neq a b = falsity_term (equal_term a b)
binary_term OnWords.Ult a b = truth_term (words_term OnWords.Ult a b)
binary_term OnWords.Ulte a b = truth_term (words_term OnWords.Ulte a b)
binary_term OnWords.Ugt a b = truth_term (words_term OnWords.Ugt a b)
binary_term OnWords.Ugte a b = truth_term (words_term OnWords.Ugte a b)
binary_term OnWords.Slt a b = truth_term (words_term OnWords.Slt a b)
binary_term OnWords.Slte a b = truth_term (words_term OnWords.Slte a b)
binary_term OnWords.Sgt a b = truth_term (words_term OnWords.Sgt a b)
binary_term OnWords.Sgte a b = truth_term (words_term OnWords.Sgte a b)
binary_term OnWords.Nand a b = not_term (words_term OnWords.And a b)
binary_term OnWords.Nor a b = not_term (words_term OnWords.Or a b)
binary_term OnWords.Xnor a b = not_term (words_term OnWords.Xor a b)
binary_term OnWords.Concat a b = apply op.Concat (two a b)
binary_term o a b = words_term o a b

-- ---- lines

-- the argument at a place
abbrev pub argument : List Arg → ℕ → Arg
argument args i = slice_index_or args i (plain_arg 0)

-- An operand, given the number of each line's variable: the line's name, or its bitwise not.
abbrev pub operand_term : (ℕ → ℕ) → Arg → Tree
operand_term number a = if a.negated then not_term (variable (number a.line) false) else variable (number a.line) false

-- What a constant or operator line says, given the number of each line's variable, the width of each line's word and that of
-- this line's sort.
abbrev pub line_term : (ℕ → ℕ) → (ℕ → ℕ) → ℕ → LineOp → List Arg → Tree
line_term number width w (line.Unary o) args = unary_term o (width (argument args 0).line) (operand_term number (argument args 0))
line_term number width w (line.Binary o) args = binary_term o (operand_term number (argument args 0)) (operand_term number (argument args 1))
line_term number width w line.Ite args =
    choice_term (is_one (operand_term number (argument args 0))) (operand_term number (argument args 1)) (operand_term number (argument args 2))
line_term number width w (line.Slice high low) args = apply (op.Extract high low) (one (operand_term number (argument args 0)))
line_term number width w (line.Uext n) args = apply (op.ZeroExtend n) (one (operand_term number (argument args 0)))
line_term number width w (line.Sext n) args = apply (op.SignExtend n) (one (operand_term number (argument args 0)))
line_term number width w o args = constant (datum.Bits (constant_word w o))
