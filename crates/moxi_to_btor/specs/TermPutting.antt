-- What a builder asks for where lines of operators are put.
use Rattle.std.specs.Prelude.{◌≡◌, ℕ, zero, suc, ◌+◌, ◌-◌, ◌<◌, ◌≤◌, true, false, List, [], ◌∷◌, ◌++◌, length}
use Rattle.word_core.specs.declared.word.TheConstants.{WIDEST}
use Rattle.word_core.specs.Words.{BitVector, IsWord}
use Rattle.word_core.specs.Table.{binary_width, unary_width}
use Rattle.word_core.specs.declared.kinds.Unary.{Unary}
use Rattle.word_core.specs.declared.kinds.Unary.TheVariants as one
use Rattle.word_core.specs.declared.kinds.Binary.{Binary}
use Rattle.word_core.specs.declared.kinds.Binary.TheVariants as two
use Rattle.btor_tree.specs.declared.args.Arg.{Arg}
use Rattle.btor_tree.specs.declared.lines.Line.{Line}
use Rattle.btor_tree.specs.declared.lines.LineOp.{LineOp}
use Rattle.btor_tree.specs.declared.lines.LineOp.TheVariants as line
use Rattle.btor_tree.specs.Fits.{AreEarlier, OpFits, greatest_id, plain_arg, width_at}
use Rattle.btor_tree.specs.Sharing.{with_sort}
use Rattle.moxi_terms.specs.declared.data.Datum.{Datum}
use Rattle.moxi_terms.specs.declared.data.Datum.TheVariants as datum
use Rattle.moxi_terms.specs.declared.data.TermOp.{TermOp}
use Rattle.moxi_terms.specs.declared.data.TermOp.TheVariants as op
use Rattle.moxi_terms.specs.declared.term.Enumeration.{Enumeration}
use Rattle.moxi_lines.specs.Codes.{code_of}
use Rattle.moxi_lines.specs.TermLines.{Built, neighbours, paired_lines, pairs_of, with_binary, with_implication, with_word}

-- there is room for a line of this width, and it fits behind its sort
pub record CanPut (lines : List Line) (o : LineOp) (w : ℕ) (args : List Arg) : Type 0 where
  pub room : length (with_word lines o w args).0 < greatest_id
  pub low : 1 ≤ w
  pub high : w ≤ WIDEST
  pub earlier : AreEarlier (length (with_sort lines w).0) args
  pub fits : OpFits (with_sort lines w).0 (with_sort lines w).1 o args

-- the line at a place has a word
pub record HasWord (lines : List Line) (p : ℕ) : Type 0 where
  pub wide : 1 ≤ width_at lines p
  pub narrow : width_at lines p ≤ WIDEST

-- an operator that keeps the width
pub record CanPutUnary (u : Unary) (lines : List Line) (p : ℕ) : Type 0 where
  pub word : HasWord lines p
  pub keeps : unary_width u (width_at lines p) ≡ width_at lines p
  pub can : CanPut lines (line.Unary u) (unary_width u (width_at lines p)) (plain_arg p ∷ [])

pub record CanPutBinary (b : Binary) (lines : List Line) (p q : ℕ) : Type 0 where
  pub left : HasWord lines p
  pub right : HasWord lines q
  pub can : CanPut lines (line.Binary b) (binary_width b (width_at lines p) (width_at lines q)) (plain_arg p ∷ plain_arg q ∷ [])

pub record CanPutIte (lines : List Line) (c p q : ℕ) : Type 0 where
  pub word : HasWord lines p
  pub can : CanPut lines line.Ite (width_at lines p) (plain_arg c ∷ plain_arg p ∷ plain_arg q ∷ [])

pub record CanPutSlice (high low : ℕ) (lines : List Line) (p : ℕ) : Type 0 where
  pub order : low ≤ high
  pub small : high < WIDEST
  pub can : CanPut lines (line.Slice high low) (high - low + 1) (plain_arg p ∷ [])

-- an extension by 0 has no line
abbrev pub CanPutZeros : ℕ → List Line → ℕ → Type 0
CanPutZeros zero lines p = Unit {0}
CanPutZeros (suc n) lines p = HasWord lines p × CanPut lines (line.Uext (suc n)) (width_at lines p + suc n) (plain_arg p ∷ [])

abbrev pub CanPutSigns : ℕ → List Line → ℕ → Type 0
CanPutSigns zero lines p = Unit {0}
CanPutSigns (suc n) lines p = HasWord lines p × CanPut lines (line.Sext (suc n)) (width_at lines p + suc n) (plain_arg p ∷ [])

abbrev pub CanPutConstant : List Line → BitVector → Type 0
CanPutConstant lines x = CanPut lines (line.Constant x) x.width []

abbrev pub CanPutDatum : List Enumeration → List Line → Datum → Type 0
CanPutDatum es lines (datum.Truth true) = CanPut lines line.One 1 []
CanPutDatum es lines (datum.Truth false) = CanPut lines line.Zero 1 []
CanPutDatum es lines (datum.Bits x) = CanPutConstant lines x
CanPutDatum es lines (datum.Constant n i) =
    (n < length es) × IsWord (code_of es (datum.Constant n i)) × CanPutConstant lines (code_of es (datum.Constant n i))

-- ---- chains

-- an operator on each word and the chain before it
abbrev pub CanFold : Binary → Built → List ℕ → Type 0
CanFold b m [] = Unit {0}
CanFold b m (q ∷ qs) = CanPutBinary b m.0 m.1 q × CanFold b (with_binary b m.0 m.1 q) qs

abbrev pub CanChain : Binary → List Line → List ℕ → Type 0
CanChain b lines [] = Unit {0}
CanChain b lines (p ∷ ps) = CanFold b (lines, p) ps

-- an implication by each of these words, the last first
abbrev pub implied_onto : List ℕ → Built → Built
implied_onto [] m = m
implied_onto (p ∷ ps) m = with_implication p (implied_onto ps m)

abbrev pub CanImply : List ℕ → Built → Type 0
CanImply [] m = Unit {0}
CanImply (p ∷ ps) m = CanImply ps m × CanPutBinary two.Implies (implied_onto ps m).0 p (implied_onto ps m).1

abbrev pub CanImplyAll : List Line → List ℕ → Type 0
CanImplyAll lines ps = (before : List ℕ) (last : ℕ) → ps ≡ before ++ last ∷ [] → CanImply before (lines, last)

-- a line for each pair
abbrev pub CanPair : Binary → List Line → List (ℕ × ℕ) → Type 0
CanPair b lines [] = Unit {0}
CanPair b lines (x ∷ xs) = CanPutBinary b lines x.0 x.1 × CanPair b (with_binary b lines x.0 x.1).0 xs

abbrev pub CanCompare : Binary → List Line → List (ℕ × ℕ) → Type 0
CanCompare b lines xs = CanPair b lines xs × CanChain two.And (paired_lines b lines xs).0 (paired_lines b lines xs).1

-- ---- operators

abbrev pub CanOperate : TermOp → List Line → List ℕ → Type 0
CanOperate op.Not lines (p ∷ []) = CanPutUnary one.Not lines p
CanOperate op.And lines ps = CanChain two.And lines ps
CanOperate op.Or lines ps = CanChain two.Or lines ps
CanOperate op.Xor lines ps = CanChain two.Xor lines ps
CanOperate op.Implies lines ps = CanImplyAll lines ps
CanOperate op.Equal lines (p ∷ ps) = CanCompare two.Eq lines (neighbours p ps)
CanOperate op.Distinct lines ps = CanCompare two.Neq lines (pairs_of ps)
CanOperate op.Ite lines (c ∷ p ∷ q ∷ []) = CanPutIte lines c p q
CanOperate op.Concat lines (p ∷ q ∷ []) = CanPutBinary two.Concat lines p q
CanOperate (op.Extract high low) lines (p ∷ []) = CanPutSlice high low lines p
CanOperate (op.ZeroExtend n) lines (p ∷ []) = CanPutZeros n lines p
CanOperate (op.SignExtend n) lines (p ∷ []) = CanPutSigns n lines p
CanOperate (op.BvUnary u) lines (p ∷ []) = CanPutUnary u lines p
CanOperate (op.BvBinary b) lines ps = CanChain b lines ps
CanOperate o lines ps = Unit {0}
