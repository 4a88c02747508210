-- The run to which a witness is lifted breaks the invariant of the witness's bad line.
use Rattle.std.specs.Prelude.{◌≡◌, ℕ, ◌-◌, List, length, map}
use Rattle.btor_witness.specs.declared.witness.Witness.{Witness}
use Rattle.smv_text.specs.Tree.{PlainSource}
use Rattle.smv_meaning.specs.declared.value.Run.{Run}
use Rattle.smv_meaning.specs.Values.{given}
use Rattle.smv_meaning.specs.Phases.{IsAccepted}
use Rattle.smv_flatten.specs.FlatModel.{FlatModel, IsFormOf, IsRead}
use Rattle.smv_script.specs.Script.{script_for}
use Rattle.smv_script_laws.specs.RunLaws.{BreaksAt, decoded_run}
use Rattle.moxi_terms.specs.declared.data.Datum.{Datum}
use Rattle.moxi_flat.specs.FlatSystem.{flat_of}
use Rattle.moxi_lift.specs.Laws.{MeetsQueryOf}
use Rattle.moxi_scripts.specs.Behaviour.{trace_of}

-- a run of so many transitions whose last state breaks the invariant
abbrev pub BreaksIn : PlainSource → ℕ → ℕ → Run → Type 0
BreaksIn source j k run = BreaksAt source j k (map given run.states) (map given run.labels)

-- in each model of which this is the flat form, there are as many transitions as frames but the first
abbrev pub BreaksLast : FlatModel → Witness → Run → Type 0
BreaksLast f w run = (source : PlainSource) → IsFormOf source f → ∥ BreaksIn source w.bad (length w.frames - 1) run ∥₁

-- ---- law

abbrev pub TracesBreakInvariants : Type 0
TracesBreakInvariants = (source : PlainSource) (needed : ℕ) → IsRead source → IsAccepted source needed → (j : ℕ) (envs : List (List Datum)) → MeetsQueryOf (flat_of (script_for source)) j envs
    → BreaksIn source j (length envs - 1) (decoded_run source (trace_of envs) (length envs - 1))
