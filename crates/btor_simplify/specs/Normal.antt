-- Lists of lines in normal form.
use Rattle.std.specs.Prelude.{◌≡◌, ◌⊎◌, ◌+◌, ◌<◌, ℕ, Bool, true, false, List, [], Some, None, slice_get}
use Rattle.word_core.specs.Words.{BitVector}
use Rattle.btor_tree.specs.declared.args.Arg.{Arg}
use Rattle.btor_tree.specs.declared.lines.Line.{Line}
use Rattle.btor_tree.specs.declared.lines.LineOp.{LineOp}
use Rattle.btor_tree.specs.declared.lines.LineOp.TheVariants as op
use Rattle.btor_tree.specs.Fits.{sort_at}
use Rattle.btor_tree.specs.Sharing.{is_shared, Says}
use Rattle.btor_rules.specs.declared.operand.Outcome.TheVariants.{Stays}
use Rattle.btor_rules.specs.Rules.{outcome}
use Rattle.btor_simplify.specs.Fates.{constant_of, operands_of, is_sort}
use Rattle.btor_simplify.specs.Order.{has_sort}

-- the lines are constants of one width and value
abbrev pub AreSameConstants : List Line → Line → Line → Type 0
AreSameConstants lines l m =
    (c : BitVector) × (constant_of (sort_at lines l.sort) l.op ≡ Some c) × (constant_of (sort_at lines m.sort) m.op ≡ Some c)

-- no two sorts, constants or operators are equal but for id and symbol, and no two constants have one width and value
pub record HasNoTwoSame (lines : List Line) : Type 0 where
  pub by_places : (p q : ℕ) (l m : Line) → slice_get lines p ≡ Some l → slice_get lines q ≡ Some m → is_shared l.op ≡ true → is_shared m.op ≡ true → Says m.op m.sort m.args l ⊎ AreSameConstants lines l m → p ≡ q

-- no rule fits any line, with its arguments as they stand
pub record FitsNoRule (lines : List Line) : Type 0 where
  pub by_place : (p : ℕ) (l : Line) → slice_get lines p ≡ Some l → is_shared l.op ≡ true → outcome l.op (operands_of lines [] l.args) ≡ Stays

-- an init, next, bad, constraint or output line
abbrev pub is_root : LineOp → Bool
is_root op.Init = true
is_root op.Next = true
is_root op.Bad = true
is_root op.Constraint = true
is_root op.Output = true
is_root o = false

-- an init, next, bad, constraint or output line is used, and so is each line that a used line has as an argument
pub data IsUsed (lines : List Line) : ℕ → Type 0 where
  root : (q : ℕ) (l : Line) → slice_get lines q ≡ Some l → is_root l.op ≡ true → IsUsed lines q
  argument : (q j p : ℕ) (l : Line) (b : Arg) → IsUsed lines q → slice_get lines q ≡ Some l → slice_get l.args j ≡ Some b → b.line ≡ p → IsUsed lines p

-- the sort line at a place stands once, without a symbol, directly before the first line that has that sort
pub record IsSortInPlace (lines : List Line) (q : ℕ) (l : Line) : Type 0 where
  pub plain : l.symbol ≡ None
  pub once : (p : ℕ) (m : Line) → slice_get lines p ≡ Some m → m.op ≡ l.op → p ≡ q
  pub next : (m : Line) × (slice_get lines (q + 1) ≡ Some m) × (has_sort m.op ≡ true) × (m.sort ≡ q)
  pub first : (p : ℕ) (m : Line) → slice_get lines p ≡ Some m → has_sort m.op ≡ true → m.sort ≡ q → q < p

-- Lists in normal form: no rule fits any line, no two lines say the same, each constant and operator is used, ids are 1, 2, 3 and so
-- on, and sort lines are in place.
pub record IsNormal (lines : List Line) : Type 0 where
  pub unfit : FitsNoRule lines
  pub distinct : HasNoTwoSame lines
  pub used : (q : ℕ) (l : Line) → slice_get lines q ≡ Some l → is_shared l.op ≡ true → is_sort l.op ≡ false → IsUsed lines q
  pub numbered : (q : ℕ) (l : Line) → slice_get lines q ≡ Some l → l.id ≡ q + 1
  pub sorts : (q : ℕ) (l : Line) → slice_get lines q ≡ Some l → is_sort l.op ≡ true → IsSortInPlace lines q l
