-- How sorts and terms are printed (SMT-LIB 2.6, section 3.6): the canonical script has each sort and each value in one form.
use Rattle.std.specs.Prelude.{ℕ, Bool, true, false, Option, None, Some, List, [], ◌∷◌, ◌++◌, map, slice_get, slice_index_or, codes, decimal}
use Rattle.text_core.specs.Binary.{binary_digits}
use Rattle.word_core.specs.declared.kinds.Unary.{Unary}
use Rattle.word_core.specs.declared.kinds.Unary.TheVariants as one
use Rattle.word_core.specs.declared.kinds.Binary.{Binary}
use Rattle.word_core.specs.declared.kinds.Binary.TheVariants as two
use Rattle.moxi_sexpr.specs.declared.form.Atom.TheVariants as atoms
use Rattle.moxi_terms.specs.declared.data.Sort.{Sort}
use Rattle.moxi_terms.specs.declared.data.Sort.TheVariants.{Truth, Bits, Choice}
use Rattle.moxi_terms.specs.declared.data.Datum.{Datum}
use Rattle.moxi_terms.specs.declared.data.Datum.TheVariants as datum
use Rattle.moxi_terms.specs.declared.data.TermOp.{TermOp}
use Rattle.moxi_terms.specs.declared.data.TermOp.TheVariants as op
use Rattle.moxi_terms.specs.declared.term.Enumeration.{Enumeration}
use Rattle.moxi_terms.specs.declared.term.Variable.{Variable}
use Rattle.moxi_terms.specs.Names.{enumeration_names, function_names}
use Rattle.moxi_terms.specs.Tree.{Tree, constant, variable, bound, apply, binding, call, Trees, no_trees, tree}
use Rattle.moxi_terms.specs.View.{ScopeState}
use Rattle.moxi_term_print.specs.Shown.{Shown, word, part, group, Showns, no_showns, shown}

-- the name at this place
abbrev pub name_at : List (List ℕ) → ℕ → List ℕ
name_at names i = slice_index_or names i []

abbrev pub constants_or_none : Option Enumeration → List (List ℕ)
constants_or_none None = []
constants_or_none (Some e) = e.constants

-- the name of a constant of an enumeration
abbrev pub constant_name : ScopeState → ℕ → ℕ → List ℕ
constant_name s n i = name_at (constants_or_none (slice_get s.enumerations n)) i

abbrev pub variable_names : List Variable → List (List ℕ)
variable_names vs = map (λ (v : Variable). v.name) vs

abbrev pub symbol : List ℕ → Shown
symbol name = part (atoms.Symbol name false)

abbrev pub numeral : ℕ → Shown
numeral n = part (atoms.Numeral (decimal n))

-- SORTS

abbrev pub shown_sort : ScopeState → Sort → Shown
shown_sort s Truth = word (codes "Bool")
shown_sort s (Bits w) = group (shown (word (codes "_")) (shown (word (codes "BitVec")) (shown (numeral w) no_showns)))
shown_sort s (Choice n) = symbol (name_at (enumeration_names s) n)

-- OPERATORS

abbrev pub unary_word : Unary → List ℕ
unary_word one.Not = codes "bvnot"
unary_word one.Neg = codes "bvneg"
unary_word u = []

abbrev pub binary_word : Binary → List ℕ
binary_word two.And = codes "bvand"
binary_word two.Or = codes "bvor"
binary_word two.Xor = codes "bvxor"
binary_word two.Add = codes "bvadd"
binary_word two.Mul = codes "bvmul"
binary_word two.Sub = codes "bvsub"
binary_word two.Udiv = codes "bvudiv"
binary_word two.Urem = codes "bvurem"
binary_word two.Sdiv = codes "bvsdiv"
binary_word two.Srem = codes "bvsrem"
binary_word two.Smod = codes "bvsmod"
binary_word two.Sll = codes "bvshl"
binary_word two.Srl = codes "bvlshr"
binary_word two.Sra = codes "bvashr"
binary_word two.Ult = codes "bvult"
binary_word two.Ulte = codes "bvule"
binary_word two.Ugt = codes "bvugt"
binary_word two.Ugte = codes "bvuge"
binary_word two.Slt = codes "bvslt"
binary_word two.Slte = codes "bvsle"
binary_word two.Sgt = codes "bvsgt"
binary_word two.Sgte = codes "bvsge"
binary_word b = []

-- the name of an operator without indices
abbrev pub operator_word : TermOp → List ℕ
operator_word op.Not = codes "not"
operator_word op.And = codes "and"
operator_word op.Or = codes "or"
operator_word op.Xor = codes "xor"
operator_word op.Implies = codes "=>"
operator_word op.Equal = codes "="
operator_word op.Distinct = codes "distinct"
operator_word op.Ite = codes "ite"
operator_word op.Concat = codes "concat"
operator_word (op.BvUnary u) = unary_word u
operator_word (op.BvBinary b) = binary_word b
operator_word o = []

abbrev pub indexed : List ℕ → Showns → Shown
indexed name ns = group (shown (word (codes "_")) (shown (word name) ns))

-- an operator at the head of a list
abbrev pub shown_operator : TermOp → Shown
shown_operator (op.Extract high low) = indexed (codes "extract") (shown (numeral high) (shown (numeral low) no_showns))
shown_operator (op.ZeroExtend n) = indexed (codes "zero_extend") (shown (numeral n) no_showns)
shown_operator (op.SignExtend n) = indexed (codes "sign_extend") (shown (numeral n) no_showns)
shown_operator o = word (operator_word o)

-- VALUES

abbrev pub truth_word : Bool → List ℕ
truth_word true = codes "true"
truth_word false = codes "false"

abbrev pub shown_value : ScopeState → Datum → Shown
shown_value s (datum.Truth b) = word (truth_word b)
shown_value s (datum.Bits w) = part (atoms.Binary (binary_digits w.width w.bits))
shown_value s (datum.Constant n i) = symbol (constant_name s n i)

-- TERMS: given the names of the variables, and of what the `let`s around bind

abbrev pub shown_call : List ℕ → Showns → Shown
shown_call name no_showns = symbol name
shown_call name (shown x xs) = group (shown (symbol name) (shown x xs))

abbrev mutual
  pub shown_term : ScopeState → List (List ℕ) → List (List ℕ) → Tree → Shown
  shown_term s vars bounds (constant d) = shown_value s d
  shown_term s vars bounds (variable v primed) = part (atoms.Symbol (name_at vars v) primed)
  shown_term s vars bounds (bound i) = symbol (name_at bounds i)
  shown_term s vars bounds (apply o ts) = group (shown (shown_operator o) (shown_terms s vars bounds ts))
  shown_term s vars bounds (binding names ts t) =
      group (shown (word (codes "let")) (shown (group (shown_bindings s vars bounds names ts)) (shown (shown_term s vars (bounds ++ names) t) no_showns)))
  shown_term s vars bounds (call n ts) = shown_call (name_at (function_names s) n) (shown_terms s vars bounds ts)

  pub shown_terms : ScopeState → List (List ℕ) → List (List ℕ) → Trees → Showns
  shown_terms s vars bounds no_trees = no_showns
  shown_terms s vars bounds (tree t ts) = shown (shown_term s vars bounds t) (shown_terms s vars bounds ts)

  -- as many names as terms
  pub shown_bindings : ScopeState → List (List ℕ) → List (List ℕ) → List (List ℕ) → Trees → Showns
  shown_bindings s vars bounds names no_trees = no_showns
  shown_bindings s vars bounds [] (tree t ts) = no_showns
  shown_bindings s vars bounds (name ∷ names) (tree t ts) =
      shown (group (shown (symbol name) (shown (shown_term s vars bounds t) no_showns))) (shown_bindings s vars bounds names ts)

-- a list of variables, `((x S) ..)`
abbrev pub shown_variable : ScopeState → Variable → Shown
shown_variable s v = group (shown (symbol v.name) (shown (shown_sort s v.sort) no_showns))

abbrev pub shown_variables : ScopeState → List Variable → Showns
shown_variables s [] = no_showns
shown_variables s (v ∷ vs) = shown (shown_variable s v) (shown_variables s vs)
