-- What a reading holds is fit for the lines.
use Rattle.std.specs.Prelude.{◌≡◌, ℕ, ◌<◌, true, length}
use Rattle.std.specs.List.{AllByRecursion}
use Rattle.btor_witness.specs.declared.phase.Phase.{Phase}
use Rattle.btor_witness.specs.declared.phase.Phase.TheVariants as phase
use Rattle.btor_witness.specs.declared.witness.Frame.{Frame}
use Rattle.btor_witness.specs.Sizes.{Sizes, is_within}
use Rattle.btor_witness.specs.Reading.{Reading, frames_at}
use Rattle.btor_witness.specs.Printing.{IsPart}

-- what was read so far is that of a witness for the lines
abbrev pub BadFits : Sizes → ℕ → Phase → Type 0
BadFits sizes n phase.Start = Unit {0}
BadFits sizes n phase.Property = Unit {0}
BadFits sizes n phase.Heading = n < sizes.bads
BadFits sizes n phase.States = n < sizes.bads
BadFits sizes n phase.Inputs = n < sizes.bads

abbrev pub FrameFits : Sizes → Frame → Type 0
FrameFits sizes f = IsPart sizes.states f.states × IsPart sizes.inputs f.inputs

pub record FitsAt (sizes : Sizes) (p : Phase) (r : Reading) : Type 0 where
  pub bad_line : BadFits sizes r.bad p
  pub frames : AllByRecursion (FrameFits sizes) r.frames
  pub states : IsPart sizes.states r.states
  pub inputs : IsPart sizes.inputs r.inputs
  pub within : is_within sizes (length (frames_at p r)) ≡ true
