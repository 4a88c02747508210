-- When a trace of a flat system meets a query at a step, and the values of hidden variables that it has.
use Rattle.std.specs.Prelude.{◌≡◌, ℕ, zero, suc, ◌+◌, ◌<◌, ◌≤◌, List, [], ◌∷◌, length}
use Rattle.std.specs.List.{AllByRecursion, Any}
use Rattle.moxi_terms.specs.Tree.{sorts_of}
use Rattle.moxi_terms.specs.Value.{Calls}
use Rattle.moxi_scripts.specs.declared.script.Query.{Query}
use Rattle.moxi_scripts.specs.declared.script.Subsystem.{Subsystem}
use Rattle.moxi_scripts.specs.Script.{PlainScript, PlainSystem, calls_in, formula_at, system_at}
use Rattle.moxi_scripts.specs.Behaviour.{Holds, Suits, Trace}
use Rattle.moxi_scripts.specs.Meeting.{Hiddens, hidden, no_hidden, more_hidden}
use Rattle.moxi_scripts.specs.Valid.{check_variables}
use Rattle.moxi_flat.specs.FlatSystem.{PlainFlatSystem, PlainPart, count_upto}

-- the formulas of a part on a trace of so many steps
pub record PartHolds (calls : Calls) (steps : ℕ) (trace : Trace) (p : PlainPart) : Type 0 where
  pub init : Holds calls (trace 0) (trace 0) p.init
  pub trans : (j : ℕ) → j + 1 < steps → Holds calls (trace j) (trace (j + 1)) p.trans
  pub inv : (j : ℕ) → j < steps → Holds calls (trace j) (trace j) p.inv

-- the values are of their sorts, and the formulas of all parts hold
pub record IsFlatTrace (f : PlainFlatSystem) (steps : ℕ) (trace : Trace) : Type 0 where
  pub suits : (j : ℕ) → j < steps → Suits f.scope.enumerations (sorts_of f.variables) (trace j)
  pub parts : AllByRecursion (PartHolds (calls_in f.scope) steps trace) f.parts

-- the reachable formula of this number holds at step j
abbrev pub ReachesFlat : PlainFlatSystem → Trace → ℕ → ℕ → Type 0
ReachesFlat f trace j r = Holds (calls_in f.scope) (trace j) (trace j) (formula_at f.reachables r)

-- A trace of steps 0 to k of the flat system meets a query: the query's assumptions hold at every step, its current conditions at
-- step 0, each of its reachable formulas at some step from 0 to k, and one or more of them at step k.
pub record MeetsFlat (f : PlainFlatSystem) (q : Query) (k : ℕ) (trace : Trace) : Type 0 where
  pub behaves : IsFlatTrace f (k + 1) trace
  pub assumptions : (j : ℕ) → j ≤ k → AllByRecursion (λ a. Holds (calls_in f.scope) (trace j) (trace j) (formula_at f.assumptions a)) q.assumptions
  pub currents : AllByRecursion (λ c. Holds (calls_in f.scope) (trace 0) (trace 0) (formula_at f.currents c)) q.currents
  pub reached : AllByRecursion (λ r. (j : ℕ) × (j ≤ k) × ReachesFlat f trace j r) q.reachables
  pub reached_last : Any (ReachesFlat f trace k) q.reachables

-- ---- hidden values

-- At the steps 0 to k the flat trace has the hidden values: those of the locals of each subsystem, and of all instances inside it.
abbrev pub HasEach : List PlainSystem → (ℕ → ℕ) → (ℕ → ℕ → Hiddens → Type 0) → ℕ → Trace → ℕ → List Subsystem → Hiddens → Type 0
HasEach ss count within k flat fresh [] hs = Unit {0}
HasEach ss count within k flat fresh (b ∷ bs) no_hidden = ⊥
HasEach ss count within k flat fresh (b ∷ bs) (more_hidden (hidden free inner) hs) =
    let locals = length (system_at ss b.system).locals in
    ((j v : ℕ) → j ≤ k → v < locals → flat j (fresh + v) ≡ free j v) × within (fresh + locals) b.system inner
    × HasEach ss count within k flat (fresh + locals + count b.system) bs hs

abbrev pub HasUpto : List PlainSystem → ℕ → ℕ → Trace → ℕ → ℕ → Hiddens → Type 0
HasUpto ss zero k flat fresh i hs = Unit {0}
HasUpto ss (suc n) k flat fresh i hs = HasEach ss (count_upto ss n) (HasUpto ss n k flat) k flat fresh (system_at ss i).subsystems hs

-- they are behind the check's variables
abbrev pub HasHidden : PlainScript → ℕ → Trace → Hiddens → Type 0
HasHidden s k flat hs = HasUpto s.systems (length s.systems) k flat (length (check_variables s.check)) s.check.system hs

-- what the trace has for the locals of each subsystem and of all instances inside it
abbrev pub hiddens_each : List PlainSystem → (ℕ → ℕ) → (ℕ → ℕ → Hiddens) → Trace → ℕ → List Subsystem → Hiddens
hiddens_each ss count within trace fresh [] = no_hidden
hiddens_each ss count within trace fresh (b ∷ bs) =
    let next = fresh + length (system_at ss b.system).locals in
    more_hidden (hidden (λ j v. trace j (fresh + v)) (within next b.system)) (hiddens_each ss count within trace (next + count b.system) bs)

abbrev pub hiddens_upto : List PlainSystem → ℕ → Trace → ℕ → ℕ → Hiddens
hiddens_upto ss zero trace fresh i = no_hidden
hiddens_upto ss (suc n) trace fresh i = hiddens_each ss (count_upto ss n) (hiddens_upto ss n trace) trace fresh (system_at ss i).subsystems

-- the hidden values that it has
abbrev pub hidden_values : PlainScript → Trace → Hiddens
hidden_values s trace = hiddens_upto s.systems (length s.systems) trace (length (check_variables s.check)) s.check.system
