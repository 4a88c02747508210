-- What is tested of the values of a flat system's variables at a step.
use Rattle.std.specs.Prelude.{◌≡◌, ℕ, zero, suc, ◌<◌, Bool, true, false, Option, None, List, [], ◌∷◌, length, slice_index_or}
use Rattle.std.specs.List.{AllByRecursion, list_all}
use Rattle.text_core.specs.declared.verdict.Clause.{Clause}
use Rattle.text_core.specs.declared.verdict.Clause.TheVariants.{InitFails, TransFails, InvarFails}
use Rattle.text_core.specs.declared.verdict.Verdict.{Verdict}
use Rattle.text_core.specs.declared.verdict.Verdict.TheVariants.{Yes}
use Rattle.moxi_terms.specs.declared.data.Datum.{Datum}
use Rattle.moxi_terms.specs.declared.data.Datum.TheVariants.{Truth}
use Rattle.moxi_terms.specs.Names.{or_else}
use Rattle.moxi_terms.specs.Sorts.{Fit}
use Rattle.moxi_terms.specs.Tree.{Tree, constant, sorts_of}
use Rattle.moxi_terms.specs.Value.{Values}
use Rattle.moxi_scripts.specs.declared.script.Query.{Query}
use Rattle.moxi_scripts.specs.Script.{PlainFormula, PlainScript, PlainSystem}
use Rattle.moxi_scripts.specs.Asking.{query_tests}
use Rattle.moxi_scripts.specs.Behaviour.{Trace}
use Rattle.moxi_scripts.specs.Meeting.{first_failing, is_reached_before, is_true, verdict_or}
use Rattle.moxi_flat.specs.FlatSorts.{IsFlatTruth}
use Rattle.moxi_flat.specs.FlatSystem.{PlainFlatSystem, PlainPart}
use Rattle.moxi_instantiate.specs.Instances.{check_of}
use Rattle.moxi_judge.specs.declared.parts.PartFormula.{PartFormula}
use Rattle.moxi_judge.specs.declared.parts.PartFormula.TheVariants.{Init, Trans, Inv}

-- a value of its sort for each variable
abbrev pub Fits : PlainFlatSystem → List Datum → Type 0
Fits f env = Fit f.scope.enumerations (sorts_of f.variables) env

-- ---- what a query asks

abbrev pub always : Tree
always = constant (Truth true)

-- a system of the flat system's variables in which every trace behaves
abbrev pub free_system : PlainFlatSystem → PlainSystem
free_system f = record { name = []; inputs = []; outputs = []; locals = f.variables; init = always; trans = always; inv = always; subsystems = [] }

-- a script of that system alone, with the formulas and queries of the flat system
abbrev pub free_script : PlainFlatSystem → PlainScript
free_script f =
    record {
      logic = None;
      scope = f.scope;
      systems = free_system f ∷ [];
      check = check_of f;
    }

-- ---- what the parts ask

abbrev pub formula_of : PartFormula → PlainPart → Tree
formula_of Init p = p.init
formula_of Trans p = p.trans
formula_of Inv p = p.inv

-- this formula of each part
abbrev pub parts_hold : PlainFlatSystem → PartFormula → Values → Values → Bool
parts_hold f kind now later = list_all (λ (p : PlainPart). is_true (free_script f) now later (formula_of kind p)) f.parts

abbrev pub start_tests : PlainFlatSystem → Values → List (Bool × Clause)
start_tests f now = (parts_hold f Init now now, InitFails) ∷ (parts_hold f Inv now now, InvarFails) ∷ []

abbrev pub later_tests : PlainFlatSystem → Values → Values → List (Bool × Clause)
later_tests f before now = (parts_hold f Trans before now, TransFails) ∷ (parts_hold f Inv now now, InvarFails) ∷ []

-- a transition belongs to the step to which it leads
abbrev pub part_tests : PlainFlatSystem → Trace → ℕ → List (Bool × Clause)
part_tests f trace zero = start_tests f (trace 0)
part_tests f trace (suc j) = later_tests f (trace j) (trace (suc j))

-- ---- verdicts

-- the first clause that fails at step j: one of the parts, or else one of the query
abbrev pub failing_at : PlainFlatSystem → Query → ℕ → Trace → ℕ → Option Clause
failing_at f q last trace j = or_else (first_failing (part_tests f trace j)) (first_failing (query_tests (free_script f) q last (is_reached_before (free_script f) trace j) j (trace j)))

-- the verdict on so many steps from step j on
abbrev pub judged_by_parts : PlainFlatSystem → Query → ℕ → Trace → ℕ → ℕ → Verdict
judged_by_parts f q last trace j zero = Yes
judged_by_parts f q last trace j (suc n) = verdict_or j (failing_at f q last trace j) (judged_by_parts f q last trace (suc j) n)

-- ---- marks

-- a mark tells of each number what the test says
pub record AreMarks (test : ℕ → Bool) (numbers : List ℕ) (marks : List Bool) : Type 0 where
  pub long : length marks ≡ length numbers
  pub each : (k : ℕ) → k < length numbers → slice_index_or marks k false ≡ test (slice_index_or numbers k 0)

-- Where there are several numbers, marks tell what the test says. A single reachable formula is asked at the last step alone.
pub record Remember (test : ℕ → Bool) (numbers : List ℕ) (marks : List Bool) : Type 0 where
  pub long : length marks ≡ length numbers
  pub several : 1 < length numbers → AreMarks test numbers marks

-- ---- what can be tested

abbrev pub AreTruths : PlainFlatSystem → List PlainFormula → Type 0
AreTruths f fs = AllByRecursion (λ (x : PlainFormula). IsFlatTruth f x.term) fs

-- each formula of the part is of truth values
abbrev pub IsPartOf : PlainFlatSystem → PlainPart → Type 0
IsPartOf f p = (kind : PartFormula) → IsFlatTruth f (formula_of kind p)

-- the formulas that the query names are there
pub record IsQueryOf (f : PlainFlatSystem) (q : Query) : Type 0 where
  pub assumptions : AllByRecursion (λ (i : ℕ). i < length f.assumptions) q.assumptions
  pub currents : AllByRecursion (λ (i : ℕ). i < length f.currents) q.currents
  pub reachables : AllByRecursion (λ (i : ℕ). i < length f.reachables) q.reachables

pub record CanJudge (f : PlainFlatSystem) : Type 0 where
  pub parts : AllByRecursion (IsPartOf f) f.parts
  pub assumptions : AreTruths f f.assumptions
  pub currents : AreTruths f f.currents
  pub reachables : AreTruths f f.reachables
  pub queries : AllByRecursion (IsQueryOf f) f.queries
