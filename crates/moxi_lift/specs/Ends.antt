-- Why a witness of lines is not lifted.
use Rattle.std.specs.Prelude.{List}
use Rattle.text_core.specs.declared.verdict.Verdict.TheVariants as verdict
use Rattle.btor_tree.specs.declared.lines.Line.{Line}
use Rattle.btor_witness.specs.declared.witness.Witness.{Witness}
use Rattle.btor_witness.specs.Judging.{judged_btor}
use Rattle.moxi_lift.specs.declared.chain_lift.LiftEnd.{LiftEnd}
use Rattle.moxi_lift.specs.declared.chain_lift.LiftEnd.TheVariants.{No, NoMemory}

-- the judge says No, with this step and clause; of running out of memory nothing is said
abbrev pub IsLiftEnd : List Line → Witness → LiftEnd → Type 0
IsLiftEnd lines w (No step clause) = judged_btor lines w (verdict.No step clause)
IsLiftEnd lines w NoMemory = Unit {0}
