-- What a witness of a model's lines is lifted to.
use Rattle.std.specs.Prelude.{◌≡◌, ◌-◌, List, length}
use Rattle.btor_tree.specs.declared.lines.Line.{Line}
use Rattle.btor_witness.specs.declared.witness.Stated.{Stated}
use Rattle.btor_witness.specs.declared.witness.Witness.{Witness}
use Rattle.smv_meaning.specs.declared.value.Run.{Run}
use Rattle.smv_flatten.specs.FlatModel.{FlatModel, flat_plain}
use Rattle.smv_script.specs.Script.{coding_of, script_of}
use Rattle.smv_script_laws.specs.Decoding.{run_of}
use Rattle.moxi_terms.specs.declared.data.Datum.{Datum}
use Rattle.moxi_terms.specs.declared.term.Variable.{Variable}
use Rattle.moxi_terms.specs.View.{ScopeState}
use Rattle.moxi_flat.specs.FlatSystem.{PlainFlatSystem, flat_of}
use Rattle.moxi_lines.specs.Lines.{lines_of}
use Rattle.moxi_lift.specs.Lifted.{lifted, lifted_step}
use Rattle.moxi_scripts.specs.Behaviour.{trace_of}

-- the flat system of a flat form's script
abbrev pub system_in : FlatModel → PlainFlatSystem
system_in f = flat_of (script_of (flat_plain f) f.width)

-- and its lines
abbrev pub lines_in : FlatModel → List Line
lines_in f = lines_of (system_in f)

-- the step of a frame that states these words of inputs
abbrev pub step_in : FlatModel → List Stated → List Datum
step_in f stated = lifted_step (system_in f).scope.enumerations (system_in f).variables stated

-- the run for which a list of steps stands, all of them but for the inputs of the last
abbrev pub run_in : FlatModel → List (List Datum) → Run
run_in f envs = run_of (flat_plain f) (coding_of (flat_plain f) f.width) (trace_of envs) (length envs - 1)

-- the run for which the trace stands to which a witness is lifted
abbrev pub lifted_run : FlatModel → Witness → Run
lifted_run f w = run_in f (lifted (system_in f) w)

-- the scope, the variables and the lines of the flat system of a flat form's script
pub record AreOfFlat (f : FlatModel) (s : ScopeState) (vs : List Variable) (ls : List Line) : Type 0 where
  pub scope : s ≡ (system_in f).scope
  pub variables : vs ≡ (system_in f).variables
  pub lines : ls ≡ lines_in f
