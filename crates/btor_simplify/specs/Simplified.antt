-- The smaller list of lines as a relation, which has one answer.
use Rattle.std.specs.Prelude.{◌≡◌, ℕ, Bool, List, length, Option}
use Rattle.btor_tree.specs.declared.lines.Line.{Line}
use Rattle.btor_tree.specs.Fits.{IsWellFormed}
use Rattle.btor_rules.specs.declared.operand.Outcome.{Outcome}
use Rattle.btor_simplify.specs.Marks.{AreKnown, AreMarks}
use Rattle.btor_simplify.specs.Order.{IsOrder, HaveMarkedMoved, order_upto}
use Rattle.btor_simplify.specs.Written.{IsWritten}

-- what becomes of each old line, which lines stay, their order, and the new lines that are made of them
pub record IsSimplified (old new : List Line) : Type 0 where
  pub fates : List Outcome
  pub marks : List Bool
  pub places : List ℕ
  pub moved : List (Option ℕ)
  pub known : AreKnown old fates
  pub marked : AreMarks old fates 0 marks
  pub order : IsOrder old fates (length old) places moved
  pub placed : places ≡ order_upto old fates marks (length old)
  pub kept : HaveMarkedMoved marks (length old) moved
  pub written : IsWritten old fates places moved (length places) new
  pub well_formed : IsWellFormed new
