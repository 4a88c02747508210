-- Of which models a run is lowered, and why it is not.
use Rattle.std.specs.Prelude.{◌≡◌, ℕ}
use Rattle.text_core.specs.declared.verdict.Verdict.TheVariants as verdict
use Rattle.smv_text.specs.Tree.{PlainSource}
use Rattle.smv_meaning.specs.declared.value.Run.{Run}
use Rattle.trace_lower.specs.Lowered.{verdict_on}
use Rattle.trace_lower.specs.declared.lower.LowerEnd.{LowerEnd}
use Rattle.trace_lower.specs.declared.lower.LowerEnd.TheVariants.{No, NoMemory}

-- the judge says No, with this step and clause; of running out of memory nothing is said
abbrev pub IsLowerEnd : PlainSource → ℕ → Run → LowerEnd → Type 0
IsLowerEnd source j run (No step clause) = verdict_on source j run ≡ verdict.No step clause
IsLowerEnd source j run NoMemory = Unit {0}
