-- What each line of a witness does, by where its reading stands.
use Rattle.std.specs.Prelude.{◌==◌, ℕ, ◌+◌, List, [], ◌∷◌, ◌++◌, length, Result, Ok, Err, nat_lt, if◌then◌else◌}
use Rattle.text_core.specs.declared.place.Kind.{Kind}
use Rattle.btor_witness.specs.declared.phase.Phase.{Phase}
use Rattle.btor_witness.specs.declared.phase.Phase.TheVariants as phase
use Rattle.btor_witness.specs.declared.shape.Shape.{Shape}
use Rattle.btor_witness.specs.declared.shape.Shape.TheVariants.{Sat, Property, Justice, States, Inputs, End, Assignment}
use Rattle.btor_witness.specs.declared.witness.Stated.{Stated}
use Rattle.btor_witness.specs.declared.witness.Frame.{Frame}
use Rattle.btor_witness.specs.declared.witness.Witness.{Witness}
use Rattle.text_core.specs.declared.place.Kind.TheVariants.{X}
use Rattle.btor_witness.specs.Sizes.{Sizes, is_within}
use Rattle.btor_witness.specs.Parts.{stating}

-- where the reading stands: what comes next, the number of the bad line, the frames before the last one, and what the
-- last one states so far
pub record Reading : Type 0 where
  pub phase : Phase
  pub bad : ℕ
  pub frames : List Frame
  pub states : List Stated
  pub inputs : List Stated

-- nothing is read
abbrev pub begin : Reading
begin = record { phase = phase.Start; bad = 0; frames = []; states = []; inputs = [] }

-- what a line does: nothing, a step on, the end of the witness, or a refusal
pub data Next : Type 0 where
  nothing : Next
  moves : Reading → Next
  done : Witness → Next
  bad : Kind → Next

-- the frame that the last heading belongs to
abbrev pub last_frame : Reading → Frame
last_frame r = record { states = r.states; inputs = r.inputs }

-- all frames so far
abbrev pub frames_at : Phase → Reading → List Frame
frames_at phase.States r = r.frames ++ last_frame r ∷ []
frames_at phase.Inputs r = r.frames ++ last_frame r ∷ []
frames_at p r = r.frames

-- all frames that a reading has
abbrev pub frames_of : Reading → List Frame
frames_of r = frames_at r.phase r

-- a new frame begins with this part, and frames are numbered from 0
abbrev pub new_frame : Sizes → Phase → ℕ → Reading → Next
new_frame sizes part n r =
    if n == length (frames_of r) then (if is_within sizes (n + 1) then moves (record { phase = part; bad = r.bad; frames = frames_of r; states = []; inputs = [] }) else bad (X 8)) else bad (X 3)

-- the statements with one more at their place in the reading
abbrev pub with_stated : (List Stated → Reading) → Result (List Stated) Kind → Next
with_stated put (Ok stated) = moves (put stated)
with_stated put (Err kind) = bad kind

-- What a line of this shape does in this phase: `sat` comes first, and then the number of the bad line, in whose place no justice
-- property may come; the states of a frame are before its inputs, a state or an input belongs to the heading that it is
-- behind, and the end is behind at least one frame.
abbrev pub step_in : Sizes → Shape → Phase → Reading → Next
step_in sizes Sat phase.Start r = moves (record r { phase = phase.Property })
step_in sizes (Property n) phase.Property r = if nat_lt n sizes.bads then moves (record r { phase = phase.Heading; bad = n }) else bad (X 2)
step_in sizes (Justice n) phase.Property r = bad (X 7)
step_in sizes (States n) phase.Heading r = new_frame sizes phase.States n r
step_in sizes (States n) phase.States r = new_frame sizes phase.States n r
step_in sizes (States n) phase.Inputs r = new_frame sizes phase.States n r
step_in sizes (Inputs n) phase.Heading r = new_frame sizes phase.Inputs n r
step_in sizes (Inputs n) phase.States r = if n == length r.frames then moves (record r { phase = phase.Inputs }) else new_frame sizes phase.Inputs n r
step_in sizes (Inputs n) phase.Inputs r = new_frame sizes phase.Inputs n r
step_in sizes (Assignment i word) phase.States r = with_stated (λ states. record r { states = states }) (stating sizes.states r.states i word)
step_in sizes (Assignment i word) phase.Inputs r = with_stated (λ inputs. record r { inputs = inputs }) (stating sizes.inputs r.inputs i word)
step_in sizes End phase.States r = done (record { bad = r.bad; frames = frames_of r })
step_in sizes End phase.Inputs r = done (record { bad = r.bad; frames = frames_of r })
step_in sizes shape p r = bad (X 1)

-- what a line of this shape does
abbrev pub step : Sizes → Reading → Shape → Next
step sizes r shape = step_in sizes shape r.phase r
