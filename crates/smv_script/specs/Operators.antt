-- The operators of MoXI that stand for those of SMV (MoXI, SPIN 2024; SMT-LIB 2.6, theories Core and FixedSizeBitVectors). Which stand
-- for which is this translator's own.
use Rattle.std.specs.Prelude.{ℕ, zero, suc, ◌+◌, ◌-◌, ◌==◌, nat_lt, Bool, true, false, ◌&&◌, if◌then◌else◌, ℤ, pos, List, [], ◌∷◌, codes}
use Rattle.word_core.specs.declared.kinds.Unary.TheVariants as OnWord
use Rattle.word_core.specs.declared.kinds.Binary.{Binary}
use Rattle.word_core.specs.declared.kinds.Binary.TheVariants as OnWords
use Rattle.smv_text.specs.declared.operators.Prefix.{Prefix}
use Rattle.smv_text.specs.declared.operators.Prefix.TheVariants as OfPrefix
use Rattle.smv_text.specs.declared.operators.Infix.{Infix}
use Rattle.smv_text.specs.declared.operators.Infix.TheVariants.{Implies, Iff, Or, Xor, Xnor, And, Equal, Unequal, Less, Greater, LessEq, GreaterEq, Member, Union, ShiftLeft, ShiftRight, Plus, Minus, Times, Divide, Mod, Concat}
use Rattle.smv_text.specs.declared.operators.Function.{Function}
use Rattle.smv_text.specs.declared.operators.Function.TheVariants as OfFunction
use Rattle.smv_meaning.specs.Operators.{word}
use Rattle.moxi_terms.specs.declared.data.Datum.TheVariants as datum
use Rattle.moxi_terms.specs.declared.data.TermOp.{TermOp}
use Rattle.moxi_terms.specs.declared.data.TermOp.TheVariants as op
use Rattle.moxi_terms.specs.Operators.{nothing}
use Rattle.moxi_terms.specs.Tree.{Tree, constant, bound, apply, binding, Trees, no_trees, tree}
use Rattle.smv_script.specs.Codes.{integer_word}
use Rattle.moxi_terms.specs.Applications.{one, two, words_term, equal_term, choice_term}

-- ---- applications

-- a word of so many digits, and an integer in so many digits
abbrev pub word_term : ℕ → ℕ → Tree
word_term width bits = constant (datum.Bits (word width bits))

abbrev pub integer_term : ℕ → ℤ → Tree
integer_term width z = constant (datum.Bits (integer_word width z))

abbrev pub not_term : Tree → Tree
not_term a = apply op.Not (one a)

-- one part is itself
abbrev pub any_term : Trees → Tree
any_term no_trees = constant (datum.Truth false)
any_term (tree a no_trees) = a
any_term (tree a (tree b more)) = apply op.Or (tree a (tree b more))

-- ---- signs

abbrev pub sign_op : Prefix → Bool → TermOp
sign_op OfPrefix.Not words = if words then op.BvUnary OnWord.Not else op.Not
sign_op OfPrefix.Minus words = op.BvUnary OnWord.Neg

-- an operator that stands so many times
abbrev pub repeated : TermOp → ℕ → Tree → Tree
repeated o zero a = a
repeated o (suc n) a = apply o (one (repeated o n a))

-- ---- operators between two operands

-- the operator on truth values, or on words
abbrev pub logical_op : Bool → TermOp → Binary → TermOp
logical_op words o b = if words then op.BvBinary b else o

-- of integers by their signed values, or of words
abbrev pub signed_op : Bool → Binary → Binary → TermOp
signed_op words o b = op.BvBinary (if words then b else o)

-- the operator of one application to both operands, and of a chain of one sign that is one application; the last line is for those
-- that are no single application
abbrev pub infix_op : Infix → Bool → TermOp
infix_op And words = logical_op words op.And OnWords.And
infix_op Or words = logical_op words op.Or OnWords.Or
infix_op Xor words = logical_op words op.Xor OnWords.Xor
infix_op Equal words = op.Equal
infix_op Less words = signed_op words OnWords.Slt OnWords.Ult
infix_op Greater words = signed_op words OnWords.Sgt OnWords.Ugt
infix_op LessEq words = signed_op words OnWords.Slte OnWords.Ulte
infix_op GreaterEq words = signed_op words OnWords.Sgte OnWords.Ugte
infix_op Plus words = op.BvBinary OnWords.Add
infix_op Minus words = op.BvBinary OnWords.Sub
infix_op Times words = op.BvBinary OnWords.Mul
infix_op Divide words = signed_op words OnWords.Sdiv OnWords.Udiv
infix_op Mod words = signed_op words OnWords.Srem OnWords.Urem
infix_op Concat words = op.Concat
infix_op ShiftLeft words = op.BvBinary OnWords.Sll
infix_op ShiftRight words = op.BvBinary OnWords.Srl
infix_op o words = op.And

abbrev pub joins_with : Infix → Infix → Bool
joins_with And And = true
joins_with Or Or = true
joins_with Xor Xor = true
joins_with Plus Plus = true
joins_with Times Times = true
joins_with o p = false

-- An operator between two terms, given whether the operands are words; the last line is for those that are one application. `in` and
-- `union` stand for nothing here.
abbrev pub infix_term : Infix → Bool → Tree → Tree → Tree
infix_term Implies words a b = if words then words_term OnWords.Or (apply (op.BvUnary OnWord.Not) (one a)) b else apply op.Implies (two a b)
infix_term Iff words a b = if words then apply (op.BvUnary OnWord.Not) (one (words_term OnWords.Xor a b)) else equal_term a b
infix_term Xnor words a b = if words then apply (op.BvUnary OnWord.Not) (one (words_term OnWords.Xor a b)) else not_term (apply op.Xor (two a b))
infix_term Unequal words a b = not_term (equal_term a b)
infix_term Member words a b = constant nothing
infix_term Union words a b = constant nothing
infix_term o words a b = apply (infix_op o words) (two a b)

-- the width of a word that ends with an operand, given those of what is before and of the operand
abbrev pub front_width : Infix → ℕ → ℕ → ℕ
front_width Concat m n = m + n
front_width o m n = m

-- Given whether the operand is a word, the width of what is before, the number that the operand is, the term of each, and the one
-- that says whether what is before is among the operand.
abbrev pub link_term : Infix → Bool → ℕ → ℕ → Tree → Tree → Tree → Tree
link_term Member words m amount a b among = among
link_term ShiftLeft words m amount a b among = infix_term ShiftLeft words a (word_term m amount)
link_term ShiftRight words m amount a b among = infix_term ShiftRight words a (word_term m amount)
link_term o words m amount a b among = infix_term o words a b

-- ---- selections and functions

-- so many zeros in front
abbrev pub extended_term : ℕ → Tree → Tree
extended_term n a = if n == 0 then a else apply (op.ZeroExtend n) (one a)

-- the bits from high to low of a word of this width
abbrev pub selected_term : ℕ → ℕ → ℕ → Tree → Tree
selected_term width high low a = if low == 0 && high + 1 == width then a else apply (op.Extract high low) (one a)

-- a word of this width with another one
abbrev pub resized_term : ℕ → ℕ → Tree → Tree
resized_term width n a = if nat_lt n width then apply (op.Extract (n - 1) 0) (one a) else extended_term (n - width) a

abbrev pub counted_term : ℕ → Tree → Tree
counted_term width a = choice_term a (integer_term width (pos 1)) (integer_term width (pos 0))

abbrev pub counted_terms : ℕ → Trees → Trees
counted_terms width no_trees = no_trees
counted_terms width (tree a more) = tree (counted_term width a) (counted_terms width more)

abbrev pub sum_term : Trees → Tree
sum_term no_trees = constant nothing
sum_term (tree a no_trees) = a
sum_term (tree a (tree b more)) = apply (op.BvBinary OnWords.Add) (tree a (tree b more))

-- names that a `let` binds
abbrev pub t_and_u : List (List ℕ)
t_and_u = codes "t" ∷ codes "u" ∷ []

abbrev pub t_alone : List (List ℕ)
t_alone = codes "t" ∷ []

abbrev pub is_below : ℕ → Tree
is_below k = words_term OnWords.Slt (bound k) (bound (k + 1))

-- what the flat arguments of a function say: the width of the first, and the numbers that the first two are
pub record Arguments : Type 0 where
  pub width : ℕ
  pub first : ℕ
  pub second : ℕ

-- given the width of integers, how many names are bound around, and the arguments with their terms
abbrev pub function_term : ℕ → ℕ → Function → Arguments → Trees → Tree
function_term width k OfFunction.Bool args (tree a no_trees) = equal_term a (word_term 1 1)
function_term width k OfFunction.Word1 args (tree a no_trees) = choice_term a (word_term 1 1) (word_term 1 0)
function_term width k OfFunction.Toint args (tree a no_trees) = extended_term (width - args.width) a
function_term width k OfFunction.Uwconst args ts = word_term args.second args.first
function_term width k OfFunction.Extend args (tree a more) = extended_term args.second a
function_term width k OfFunction.Resize args (tree a more) = resized_term args.width args.second a
function_term width k OfFunction.Count args ts = sum_term (counted_terms width ts)
function_term width k OfFunction.Max args (tree a (tree b no_trees)) = binding t_and_u (two a b) (choice_term (is_below k) (bound (k + 1)) (bound k))
function_term width k OfFunction.Min args (tree a (tree b no_trees)) = binding t_and_u (two a b) (choice_term (is_below k) (bound k) (bound (k + 1)))
function_term width k OfFunction.Abs args (tree a no_trees) =
    binding t_alone (one a) (choice_term (words_term OnWords.Slt (bound k) (integer_term width (pos 0))) (apply (op.BvUnary OnWord.Neg) (one (bound k))) (bound k))
function_term width k f args ts = constant nothing

-- ---- sets

abbrev pub between_term : ℕ → ℤ → ℤ → Tree → Tree
between_term width low high x = apply op.And (two (words_term OnWords.Slte (integer_term width low) x) (words_term OnWords.Slte x (integer_term width high)))

-- a name is tested as it is, anything else is bound first
abbrev pub among_term : Bool → ℕ → Tree → (ℕ → Tree → Tree) → Tree
among_term named k a member = if named then member k a else binding t_alone (one a) (member (k + 1) (bound k))
