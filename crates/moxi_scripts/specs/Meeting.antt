-- When a trace meets a query of a script at a step, and what a judge says of a trace with stated hidden values.
use Rattle.std.specs.Prelude.{◌==◌, ℕ, zero, suc, ◌+◌, ◌-◌, ◌≤◌, nat_lt, Bool, true, false, ◌&&◌, ◌||◌, if◌then◌else◌, Option, None, Some, List, [], ◌∷◌, length, slice_index_or}
use Rattle.std.specs.List.{AllByRecursion, Any, list_all, list_any}
use Rattle.text_core.specs.declared.verdict.Clause.{Clause}
use Rattle.text_core.specs.declared.verdict.Clause.TheVariants.{InitFails, TransFails, InvarFails, AssumptionFails, CurrentFails, NotBroken}
use Rattle.text_core.specs.declared.verdict.Verdict.{Verdict}
use Rattle.text_core.specs.declared.verdict.Verdict.TheVariants.{Yes, No}
use Rattle.moxi_terms.specs.Operators.{truth_of}
use Rattle.moxi_terms.specs.Tree.{Tree}
use Rattle.moxi_terms.specs.Value.{Values, term_value}
use Rattle.moxi_scripts.specs.declared.script.Query.{Query}
use Rattle.moxi_scripts.specs.declared.script.Subsystem.{Subsystem}
use Rattle.moxi_scripts.specs.Script.{PlainScript, PlainSystem, calls_in, formula_at, system_at}
use Rattle.moxi_scripts.specs.Behaviour.{Behaves, Holds, Trace}

-- the reachable formula of this number holds at step j
abbrev pub Reaches : PlainScript → Trace → ℕ → ℕ → Type 0
Reaches s trace j r = Holds (calls_in s.scope) (trace j) (trace j) (formula_at s.check.reachables r)

-- A trace of steps 0 to k meets a query: the checked system behaves on it, the query's assumptions hold at every step, its
-- current conditions at step 0, each of its reachable formulas at some step from 0 to k, and one or more of them at step k.
pub record MeetsQuery (s : PlainScript) (q : Query) (k : ℕ) (trace : Trace) : Type 0 where
  pub behaves : Behaves s.scope.enumerations (calls_in s.scope) s.systems (k + 1) s.check.system trace
  pub assumptions : (j : ℕ) → j ≤ k → AllByRecursion (λ a. Holds (calls_in s.scope) (trace j) (trace j) (formula_at s.check.assumptions a)) q.assumptions
  pub currents : AllByRecursion (λ c. Holds (calls_in s.scope) (trace 0) (trace 0) (formula_at s.check.currents c)) q.currents
  pub reached : AllByRecursion (λ r. (j : ℕ) × (j ≤ k) × Reaches s trace j r) q.reachables
  pub reached_last : Any (Reaches s trace k) q.reachables

-- the values of the locals of a subsystem at each step, and what its own subsystems have
mutual
  pub data Hidden : Type 0 where
    hidden : Trace → Hiddens → Hidden

  pub data Hiddens : Type 0 where
    no_hidden : Hiddens
    more_hidden : Hidden → Hiddens → Hiddens

-- what a subsystem's variables have: its inputs and outputs what the actuals have, its locals their own values
abbrev pub within : List ℕ → Values → Values → Values
within actuals outer free v = if nat_lt v (length actuals) then outer (slice_index_or actuals v 0) else free (v - length actuals)

abbrev pub is_true : PlainScript → Values → Values → Tree → Bool
is_true s now later t = truth_of (term_value (calls_in s.scope) now later [] t)

-- a formula of each system, here and in all subsystems, between the steps j and k
abbrev mutual
  pub one_holds : PlainScript → (PlainSystem → Tree) → ℕ → ℕ → Subsystem → Values → Values → Hidden → Bool
  one_holds s part j k b now later (hidden free inner) =
      is_true s (within b.actuals now (free j)) (within b.actuals later (free k)) (part (system_at s.systems b.system))
      && each_holds s part j k (system_at s.systems b.system).subsystems (within b.actuals now (free j)) (within b.actuals later (free k)) inner

  pub each_holds : PlainScript → (PlainSystem → Tree) → ℕ → ℕ → List Subsystem → Values → Values → Hiddens → Bool
  each_holds s part j k [] now later hs = true
  each_holds s part j k (b ∷ bs) now later no_hidden = false
  each_holds s part j k (b ∷ bs) now later (more_hidden h hs) = one_holds s part j k b now later h && each_holds s part j k bs now later hs

abbrev pub all_hold : PlainScript → (PlainSystem → Tree) → ℕ → ℕ → Trace → Hiddens → Bool
all_hold s part j k trace hs =
    is_true s (trace j) (trace k) (part (system_at s.systems s.check.system)) && each_holds s part j k (system_at s.systems s.check.system).subsystems (trace j) (trace k) hs

abbrev pub assumptions_hold : PlainScript → Query → Values → Bool
assumptions_hold s q now = list_all (λ a. is_true s now now (formula_at s.check.assumptions a)) q.assumptions

abbrev pub currents_hold : PlainScript → Query → Values → Bool
currents_hold s q now = list_all (λ c. is_true s now now (formula_at s.check.currents c)) q.currents

-- the reachable formula of this number is true at a step
abbrev pub reaches : PlainScript → Values → ℕ → Bool
reaches s now r = is_true s now now (formula_at s.check.reachables r)

-- it is true at one of the steps before step j
abbrev pub is_reached_before : PlainScript → Trace → ℕ → ℕ → Bool
is_reached_before s trace zero r = false
is_reached_before s trace (suc j) r = is_reached_before s trace j r || reaches s (trace j) r

-- each of the query's formulas is reached now or was reached before, and one or more are reached now
abbrev pub all_reached : PlainScript → Query → (ℕ → Bool) → Values → Bool
all_reached s q before now = list_all (λ r. before r || reaches s now r) q.reachables && list_any (reaches s now) q.reachables

-- that is asked at the last step alone
abbrev pub ends_reached : PlainScript → Query → ℕ → (ℕ → Bool) → ℕ → Values → Bool
ends_reached s q last before j now = if last == j then all_reached s q before now else true

abbrev pub first_failing : List (Bool × Clause) → Option Clause
first_failing [] = None
first_failing (t ∷ ts) = if t.0 then first_failing ts else Some t.1

-- the tests of a step; a transition belongs to the step to which it leads
abbrev pub step_tests : PlainScript → Query → ℕ → Trace → Hiddens → ℕ → List (Bool × Clause)
step_tests s q last trace hs zero =
    (all_hold s (λ x. x.init) 0 0 trace hs, InitFails) ∷ (all_hold s (λ x. x.inv) 0 0 trace hs, InvarFails) ∷ (assumptions_hold s q (trace 0), AssumptionFails)
    ∷ (currents_hold s q (trace 0), CurrentFails) ∷ (ends_reached s q last (is_reached_before s trace 0) 0 (trace 0), NotBroken) ∷ []
step_tests s q last trace hs (suc j) =
    (all_hold s (λ x. x.trans) j (suc j) trace hs, TransFails) ∷ (all_hold s (λ x. x.inv) (suc j) (suc j) trace hs, InvarFails)
    ∷ (assumptions_hold s q (trace (suc j)), AssumptionFails) ∷ (ends_reached s q last (is_reached_before s trace (suc j)) (suc j) (trace (suc j)), NotBroken) ∷ []

abbrev pub verdict_or : ℕ → Option Clause → Verdict → Verdict
verdict_or j None v = v
verdict_or j (Some c) v = No j c

-- so many steps from step j on
abbrev pub judged_from : PlainScript → Query → ℕ → Trace → Hiddens → ℕ → ℕ → Verdict
judged_from s q last trace hs j zero = Yes
judged_from s q last trace hs j (suc n) = verdict_or j (first_failing (step_tests s q last trace hs j)) (judged_from s q last trace hs (suc j) n)

-- Yes, or the earliest step with a failing test, and its first failing clause.
abbrev pub judged_moxi : PlainScript → Query → ℕ → Trace → Hiddens → Verdict
judged_moxi s q last trace hs = judged_from s q last trace hs 0 (suc last)
