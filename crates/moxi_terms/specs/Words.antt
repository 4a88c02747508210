-- The operators' names (SMT-LIB 2.6, theories Core and FixedSizeBitVectors), and the names that are left out.
use Rattle.std.specs.Prelude.{ℕ, Bool, false, ◌==◌, ◌||◌, if◌then◌else◌, Option, None, Some, is_some, List, [], ◌∷◌, codes}
use Rattle.std.specs.List.{list_any}
use Rattle.std.specs.Str.{bytes_eq}
use Rattle.word_core.specs.declared.kinds.Unary.TheVariants as one
use Rattle.word_core.specs.declared.kinds.Binary.TheVariants as two
use Rattle.moxi_terms.specs.declared.data.TermOp.{TermOp}
use Rattle.moxi_terms.specs.declared.data.TermOp.TheVariants as op

-- what stands beside the first row of this name
abbrev pub row_named : {A : Type 0} → List (List ℕ × A) → List ℕ → Option A
row_named [] name = None
row_named (row ∷ rows) name = if bytes_eq name row.0 then Some row.1 else row_named rows name

unfoldable pub operators : List (List ℕ × TermOp)
operators =
    (codes "not", op.Not) ∷ (codes "and", op.And) ∷ (codes "or", op.Or) ∷ (codes "xor", op.Xor) ∷ (codes "=>", op.Implies) ∷ (codes "=", op.Equal)
    ∷ (codes "distinct", op.Distinct) ∷ (codes "ite", op.Ite) ∷ (codes "concat", op.Concat) ∷ (codes "bvnot", op.BvUnary one.Not) ∷ (codes "bvneg", op.BvUnary one.Neg)
    ∷ (codes "bvand", op.BvBinary two.And) ∷ (codes "bvor", op.BvBinary two.Or) ∷ (codes "bvxor", op.BvBinary two.Xor) ∷ (codes "bvadd", op.BvBinary two.Add) ∷ (codes "bvmul", op.BvBinary two.Mul)
    ∷ (codes "bvsub", op.BvBinary two.Sub) ∷ (codes "bvudiv", op.BvBinary two.Udiv) ∷ (codes "bvurem", op.BvBinary two.Urem) ∷ (codes "bvsdiv", op.BvBinary two.Sdiv)
    ∷ (codes "bvsrem", op.BvBinary two.Srem) ∷ (codes "bvsmod", op.BvBinary two.Smod) ∷ (codes "bvshl", op.BvBinary two.Sll) ∷ (codes "bvlshr", op.BvBinary two.Srl) ∷ (codes "bvashr", op.BvBinary two.Sra)
    ∷ (codes "bvult", op.BvBinary two.Ult) ∷ (codes "bvule", op.BvBinary two.Ulte) ∷ (codes "bvugt", op.BvBinary two.Ugt) ∷ (codes "bvuge", op.BvBinary two.Ugte)
    ∷ (codes "bvslt", op.BvBinary two.Slt) ∷ (codes "bvsle", op.BvBinary two.Slte) ∷ (codes "bvsgt", op.BvBinary two.Sgt) ∷ (codes "bvsge", op.BvBinary two.Sgte) ∷ []

-- the names of operators with indices
unfoldable pub indexed_operators : List (List ℕ)
indexed_operators = codes "extract" ∷ codes "zero_extend" ∷ codes "sign_extend" ∷ []

-- operators of MoXI and SMT-LIB that are left out
unfoldable pub left_out_operators : List (List ℕ)
left_out_operators =
    codes "forall" ∷ codes "exists" ∷ codes "select" ∷ codes "store" ∷ codes "+" ∷ codes "-" ∷ codes "*" ∷ codes "/" ∷ codes "div" ∷ codes "mod" ∷ codes "abs" ∷ codes "<" ∷ codes "<=" ∷ codes ">" ∷ codes ">="
    ∷ codes "OnlyChange" ∷ codes "bvnand" ∷ codes "bvnor" ∷ codes "bvxnor" ∷ codes "bvcomp" ∷ codes "repeat" ∷ codes "rotate_left" ∷ codes "rotate_right" ∷ []

-- sorts that are left out
unfoldable pub left_out_sorts : List (List ℕ)
left_out_sorts = codes "Int" ∷ codes "Real" ∷ codes "Array" ∷ []

abbrev pub is_one_of : List (List ℕ) → List ℕ → Bool
is_one_of words name = list_any (bytes_eq name) words

-- the operator of this name
abbrev pub operator_named : List ℕ → Option TermOp
operator_named name = row_named operators name

-- an operator has this name
abbrev pub is_operator : List ℕ → Bool
is_operator name = is_some (operator_named name) || is_one_of indexed_operators name

-- may the name of an operator begin with this byte?
abbrev pub may_begin : ℕ → Bool
may_begin b = (b == 61) || ((b == 97) || ((b == 98) || ((b == 99) || ((b == 100) || ((b == 101) || ((b == 105) || ((b == 110) || ((b == 111) || ((b == 115) || ((b == 120) || (b == 122)))))))))))

abbrev pub begins_so : List ℕ → Bool
begins_so [] = false
begins_so (b ∷ more) = may_begin b
