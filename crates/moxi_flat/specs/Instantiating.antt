-- What a program that makes a flat system uses: the number of systems bounds how deep they nest, and how terms are renumbered.
use Rattle.std.specs.Prelude.{◌≡◌, ℕ, suc, ◌+◌, ◌<◌, List, length, slice_get, Some}
use Rattle.std.specs.List.{AllByRecursion}
use Rattle.moxi_terms.specs.Tree.{Tree}
use Rattle.moxi_scripts.specs.declared.script.Subsystem.{Subsystem}
use Rattle.moxi_scripts.specs.Script.{PlainScript, PlainSystem, system_at, variables_in}
use Rattle.moxi_scripts.specs.Behaviour.{Trace}
use Rattle.moxi_scripts.specs.Valid.{IsValid}
use Rattle.moxi_flat.specs.Terms.{term_height, term_size}
use Rattle.moxi_flat.specs.Systems.{instance_height, instance_size, nesting_upto}
use Rattle.moxi_flat.specs.FlatMeeting.{hiddens_upto}
use Rattle.moxi_flat.specs.FlatSystem.{count_upto, locals_upto, parts_upto}
use Rattle.moxi_flat.specs.Renumbering.{IsOver, renumbered}

-- with this bound a greater one changes nothing of system i
pub record IsEnough (ss : List PlainSystem) (n i : ℕ) : Type 0 where
  pub size : (calls : ℕ → ℕ) → instance_size calls ss (suc n) i ≡ instance_size calls ss n i
  pub height : (calls : ℕ → ℕ) → instance_height calls ss (suc n) i ≡ instance_height calls ss n i
  pub nesting : nesting_upto ss (suc n) i ≡ nesting_upto ss n i
  pub locals : (path : List ℕ) → locals_upto ss (suc n) path i ≡ locals_upto ss n path i
  pub count : count_upto ss (suc n) i ≡ count_upto ss n i
  pub parts : (place : ℕ → ℕ) (fresh : ℕ) → parts_upto ss (suc n) place fresh i ≡ parts_upto ss n place fresh i
  pub hiddens : (trace : Trace) (fresh : ℕ) → hiddens_upto ss (suc n) trace fresh i ≡ hiddens_upto ss n trace fresh i

abbrev pub SystemsBoundNesting : Type 0
SystemsBoundNesting = (s : PlainScript) → IsValid s → (i : ℕ) → i < length s.systems → IsEnough s.systems (length s.systems) i

-- a subsystem nests less deep than the system in which it stands
abbrev pub NestingFalls : Type 0
NestingFalls = (s : PlainScript) → IsValid s → (i : ℕ) → i < length s.systems
    → AllByRecursion (λ (b : Subsystem). nesting_upto s.systems (length s.systems) b.system < nesting_upto s.systems (length s.systems) i) (system_at s.systems i).subsystems

abbrev pub LocalsAreCounted : Type 0
LocalsAreCounted = (ss : List PlainSystem) (n : ℕ) (path : List ℕ) (i : ℕ) → length (locals_upto ss n path i) ≡ count_upto ss n i

-- a subsystem has a variable for each input and output of its system
pub record HasActuals (ss : List PlainSystem) (n : ℕ) (b : Subsystem) : Type 0 where
  pub there : b.system < length ss
  pub long : length b.actuals ≡ length (system_at ss b.system).inputs + length (system_at ss b.system).outputs
  pub variables : (a v : ℕ) → slice_get b.actuals a ≡ Some v → v < n

-- the formulas of a system are over its variables
pub record IsOverVariables (ss : List PlainSystem) (s : PlainSystem) : Type 0 where
  pub init : IsOver (length (variables_in s)) s.init
  pub trans : IsOver (length (variables_in s)) s.trans
  pub inv : IsOver (length (variables_in s)) s.inv
  pub subsystems : AllByRecursion (HasActuals ss (length (variables_in s))) s.subsystems

abbrev pub SystemsAreOverVariables : Type 0
SystemsAreOverVariables = (s : PlainScript) → IsValid s → (i : ℕ) → i < length s.systems → IsOverVariables s.systems (system_at s.systems i)

-- renumbering a term looks at the numbers of its variables alone, and keeps its size and its height
pub record RenumbersConsistently : Type 0 where
  pub same : (n : ℕ) (place other : ℕ → ℕ) → ((v : ℕ) → v < n → place v ≡ other v) → (t : Tree) → IsOver n t → renumbered place t ≡ renumbered other t
  pub size : (calls : ℕ → ℕ) (place : ℕ → ℕ) (t : Tree) → term_size calls (renumbered place t) ≡ term_size calls t
  pub height : (calls : ℕ → ℕ) (place : ℕ → ℕ) (t : Tree) → term_height calls (renumbered place t) ≡ term_height calls t
