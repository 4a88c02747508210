-- Which traces of a system behave (the shape of systems as in MoXI, SPIN 2024; traces are finite here).
use Rattle.std.specs.Prelude.{◌≡◌, ℕ, ◌+◌, ◌<◌, true, Some, List, [], ◌∷◌, length, slice_get, slice_index_or}
use Rattle.moxi_terms.specs.declared.data.Sort.{Sort}
use Rattle.moxi_terms.specs.declared.data.Datum.TheVariants.{Truth}
use Rattle.moxi_terms.specs.declared.term.Enumeration.{Enumeration}
use Rattle.moxi_terms.specs.Sorts.{IsOf}
use Rattle.moxi_terms.specs.Tree.{Tree, sorts_of}
use Rattle.moxi_terms.specs.Value.{Calls, Values, term_value, at}
use Rattle.moxi_scripts.specs.declared.script.Subsystem.{Subsystem}
use Rattle.moxi_scripts.specs.Script.{PlainSystem, system_at, variables_in}
use Rattle.moxi_terms.specs.declared.data.Datum.{Datum}

-- what each variable has at each step
abbrev pub Trace : Type 0
Trace = ℕ → Values

-- each variable has a value of its sort
pub record Suits (es : List Enumeration) (sorts : List Sort) (values : Values) : Type 0 where
  pub each : (v : ℕ) (s : Sort) → slice_get sorts v ≡ Some s → IsOf es s (values v)

-- a formula is true, of the values now and of the later ones
abbrev pub Holds : Calls → Values → Values → Tree → Type 0
Holds calls now later t = term_value calls now later [] t ≡ Truth true

-- A system's own formulas on a trace of so many steps.
pub record FormulasHold (calls : Calls) (steps : ℕ) (s : PlainSystem) (trace : Trace) : Type 0 where
  pub init : Holds calls (trace 0) (trace 0) s.init
  pub trans : (j : ℕ) → j + 1 < steps → Holds calls (trace j) (trace (j + 1)) s.trans
  pub inv : (j : ℕ) → j < steps → Holds calls (trace j) (trace j) s.inv

-- at each step the inputs and outputs of a subsystem have what the actuals have
pub record Shares (steps : ℕ) (actuals : List ℕ) (trace inner : Trace) : Type 0 where
  pub each : (j a v : ℕ) → j < steps → slice_get actuals a ≡ Some v → inner j a ≡ trace j v

mutual
  -- The values are of their sorts, the system's own formulas hold, and for each of its subsystems there is a trace of
  -- as many steps that behaves and shares the actuals.
  pub data Behaves (es : List Enumeration) (calls : Calls) (ss : List PlainSystem) (steps : ℕ) : ℕ → Trace → Type 0 where
    behaves : {i : ℕ} {trace : Trace} → i < length ss
        → ((j : ℕ) → j < steps → Suits es (sorts_of (variables_in (system_at ss i))) (trace j))
        → FormulasHold calls steps (system_at ss i) trace
        → EachBehaves es calls ss steps (system_at ss i).subsystems trace
        → Behaves es calls ss steps i trace

  pub data EachBehaves (es : List Enumeration) (calls : Calls) (ss : List PlainSystem) (steps : ℕ) : List Subsystem → Trace → Type 0 where
    no_subsystems : {trace : Trace} → EachBehaves es calls ss steps [] trace
    subsystem : {b : Subsystem} {bs : List Subsystem} {trace : Trace} (inner : Trace) → Behaves es calls ss steps b.system inner → Shares steps b.actuals trace inner
        → EachBehaves es calls ss steps bs trace → EachBehaves es calls ss steps (b ∷ bs) trace

-- what the variables have at each step
abbrev pub trace_of : List (List Datum) → Trace
trace_of envs j = at (slice_index_or envs j [])
