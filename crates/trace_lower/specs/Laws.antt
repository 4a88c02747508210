-- What the judges and the lift say of the witness that states a run.
use Rattle.std.specs.Prelude.{◌≡◌, ◌-◌, ℕ, List, length}
use Rattle.text_core.specs.declared.verdict.Verdict.TheVariants.{Yes}
use Rattle.btor_tree.specs.declared.lines.Line.{Line}
use Rattle.btor_witness.specs.declared.witness.Witness.{Witness}
use Rattle.btor_witness.specs.Judging.{judged_btor}
use Rattle.btor_witness.specs.Printing.{IsWitness, rising_witness}
use Rattle.btor_witness.specs.Sizes.{sizes_of}
use Rattle.smv_text.specs.Tree.{PlainSource}
use Rattle.smv_meaning.specs.declared.value.Run.{Run}
use Rattle.smv_meaning.specs.Phases.{IsAccepted}
use Rattle.smv_flat.specs.FlatForms.{flat_smv}
use Rattle.smv_flatten.specs.FlatModel.{IsRead}
use Rattle.smv_numbered.specs.Stated.{Declarations, IsStatedRun}
use Rattle.smv_script_laws.specs.RunLaws.{decoded_run}
use Rattle.moxi_layout.specs.LayoutLaws.{IsLaidOut}
use Rattle.moxi_lift.specs.Lifted.{lifted}
use Rattle.witness_lift.specs.LineLaws.{model_system}
use Rattle.trace_lower.specs.Lowered.{lowered, verdict_on}
use Rattle.moxi_scripts.specs.Behaviour.{trace_of}

-- It is a witness for the lines, the judge accepts it, and its statements are in rising order.
pub record IsAcceptedBy (lines : List Line) (w : Witness) : Type 0 where
  pub witness : IsWitness (sizes_of lines) w
  pub accepted : judged_btor lines w Yes
  pub rises : rising_witness (sizes_of lines) w ≡ w

-- ---- laws

-- so is that of each run which breaks an invariant, for all lines that lay the model's system out
abbrev pub LoweredAreAccepted : Type 0
LoweredAreAccepted = (source : PlainSource) (needed : ℕ) → IsRead source → IsAccepted source needed → (j : ℕ) (run : Run) → verdict_on source j run ≡ Yes
    → (lines : List Line) → IsLaidOut (model_system source) lines → IsAcceptedBy lines (lowered source j run)

-- what a trace of the model is read against
abbrev pub declared_by : PlainSource → Declarations
declared_by source = record { items = (flat_smv source).items; symbols = (flat_smv source).symbols }

-- the run to which a witness of the model's lines is lifted
abbrev pub lifted_run : PlainSource → Witness → Run
lifted_run source w = decoded_run source (trace_of (lifted (model_system source) w)) (length (lifted (model_system source) w) - 1)

-- the run comes back from it, where it states each variable in flat order
abbrev pub LoweredRoundTrip : Type 0
LoweredRoundTrip = (source : PlainSource) (needed : ℕ) → IsRead source → IsAccepted source needed → (j : ℕ) (run : Run) → IsStatedRun (declared_by source) run → verdict_on source j run ≡ Yes
    → lifted_run source (lowered source j run) ≡ run
