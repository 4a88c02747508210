-- The system that a script's check instantiates, without subsystems (systems as in MoXI, SPIN 2024). A bound tells how deep
-- subsystems nest at most: since no system contains itself, the number of systems is enough.
use Rattle.std.specs.Prelude.{ℕ, zero, suc, ◌+◌, ◌-◌, nat_lt, if◌then◌else◌, List, [], ◌∷◌, ◌++◌, map, length, slice_index_or, sum_by, codes}
use Rattle.moxi_terms.specs.declared.term.Variable.{Variable}
use Rattle.moxi_terms.specs.Tree.{Tree}
use Rattle.moxi_terms.specs.View.{ScopeState}
use Rattle.moxi_scripts.specs.declared.script.Query.{Query}
use Rattle.moxi_scripts.specs.declared.script.Subsystem.{Subsystem}
use Rattle.moxi_scripts.specs.Script.{PlainFormula, PlainScript, PlainSystem, system_at}
use Rattle.moxi_scripts.specs.Valid.{check_variables}
use Rattle.moxi_flat.specs.Renumbering.{renumbered}

-- the formulas of one instance
pub record PlainPart : Type 0 where
  pub init : Tree
  pub trans : Tree
  pub inv : Tree

-- all terms are over the numbers of these variables; there is one part for each instance
pub record PlainFlatSystem : Type 0 where
  pub scope : ScopeState
  pub variables : List Variable
  pub parts : List PlainPart
  pub assumptions : List PlainFormula
  pub currents : List PlainFormula
  pub reachables : List PlainFormula
  pub queries : List Query

-- ---- variables

-- a path: the name of each subsystem, with a dot behind it
abbrev pub path_inside : List ℕ → Subsystem → List ℕ
path_inside path b = path ++ (b.name ++ codes ".")

abbrev pub named_inside : List ℕ → List Variable → List Variable
named_inside path vs = map (λ (v : Variable). record { name = path ++ v.name; sort = v.sort }) vs

-- the locals of each subsystem, and behind them those of all instances inside it
abbrev pub locals_each : List PlainSystem → (List ℕ → ℕ → List Variable) → List ℕ → List Subsystem → List Variable
locals_each ss within path [] = []
locals_each ss within path (b ∷ bs) =
    named_inside (path_inside path b) (system_at ss b.system).locals ++ (within (path_inside path b) b.system ++ locals_each ss within path bs)

-- the locals of all instances inside system i
abbrev pub locals_upto : List PlainSystem → ℕ → List ℕ → ℕ → List Variable
locals_upto ss zero path i = []
locals_upto ss (suc n) path i = locals_each ss (locals_upto ss n) path (system_at ss i).subsystems

-- how many these are
abbrev pub count_upto : List PlainSystem → ℕ → ℕ → ℕ
count_upto ss zero i = 0
count_upto ss (suc n) i = sum_by (λ (b : Subsystem). length (system_at ss b.system).locals + count_upto ss n b.system) (system_at ss i).subsystems

-- ---- parts

-- the number that stands for a variable of a subsystem: an input or output has that of its actual, and the locals begin at `fresh`
abbrev pub place_inside : (ℕ → ℕ) → List ℕ → ℕ → ℕ → ℕ
place_inside place actuals fresh v = if nat_lt v (length actuals) then place (slice_index_or actuals v 0) else (fresh + (v - length actuals))

abbrev pub part_of : (ℕ → ℕ) → PlainSystem → PlainPart
part_of place s = record { init = renumbered place s.init; trans = renumbered place s.trans; inv = renumbered place s.inv }

-- the parts of each subsystem and of all instances inside it
abbrev pub parts_each : List PlainSystem → (ℕ → ℕ) → ((ℕ → ℕ) → ℕ → ℕ → List PlainPart) → (ℕ → ℕ) → ℕ → List Subsystem → List PlainPart
parts_each ss count parts place fresh [] = []
parts_each ss count parts place fresh (b ∷ bs) =
    let next = fresh + length (system_at ss b.system).locals in
    parts (place_inside place b.actuals fresh) next b.system ++ parts_each ss count parts place (next + count b.system) bs

-- those of system i and of all instances inside it
abbrev pub parts_upto : List PlainSystem → ℕ → (ℕ → ℕ) → ℕ → ℕ → List PlainPart
parts_upto ss zero place fresh i = []
parts_upto ss (suc n) place fresh i = part_of place (system_at ss i) ∷ parts_each ss (count_upto ss n) (parts_upto ss n) place fresh (system_at ss i).subsystems

-- ---- scripts

-- the check's variables come first, under the check's names, and the locals of the instances behind them
abbrev pub flat_of : PlainScript → PlainFlatSystem
flat_of s =
    record {
      scope = s.scope;
      variables = check_variables s.check ++ locals_upto s.systems (length s.systems) [] s.check.system;
      parts = parts_upto s.systems (length s.systems) (λ v. v) (length (check_variables s.check)) s.check.system;
      assumptions = s.check.assumptions;
      currents = s.check.currents;
      reachables = s.check.reachables;
      queries = s.check.queries;
    }
