-- What a smaller list keeps of the lines that it was made of.
use Rattle.std.specs.Prelude.{◌≡◌, ◌≤◌, List, length}
use Rattle.btor_tree.specs.declared.lines.Line.{Line}
use Rattle.btor_tree.specs.Fits.{IsWellFormed}
use Rattle.btor_simplify.specs.Kept.{KeepsLines}
use Rattle.btor_simplify.specs.Normal.{IsNormal}
use Rattle.btor_simplify.specs.Simplified.{IsSimplified}
use Rattle.btor_simplify.specs.Witnesses.{KeepsWitnesses}
use Rattle.btor_simplify.specs.Words.{KeepsRuns, KeepsWords}

-- The new list is in normal form and has at most as many lines. Inputs, states, init, next, bad, constraint and output lines are the
-- same, what they read has the same words in every frame of every run, and the same texts are witnesses with the same verdicts.
pub record IsSmallerList (old new : List Line) : Type 0 where
  pub well_formed : IsWellFormed new
  pub fewer : length new ≤ length old
  pub normal : IsNormal new
  pub unchanged : IsNormal old → new ≡ old
  pub lines : KeepsLines old new
  pub words : KeepsWords old new
  pub runs : KeepsRuns old new
  pub witnesses : KeepsWitnesses old new

-- what is made of each list that a text may spell
abbrev pub ListsGetSmaller : Type 0
ListsGetSmaller = (old new : List Line) → IsWellFormed old → IsSimplified old new → IsSmallerList old new
