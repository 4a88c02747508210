-- What a query asks of the values that a check's variables have at a step, apart from what the system asks of them (MoXI, SPIN 2024).
use Rattle.std.specs.Prelude.{◌≡◌, ℕ, zero, suc, ◌≤◌, Bool, None, List, [], ◌∷◌, slice_index_or}
use Rattle.text_core.specs.declared.verdict.Clause.{Clause}
use Rattle.text_core.specs.declared.verdict.Clause.TheVariants.{InitFails, TransFails, InvarFails, AssumptionFails, CurrentFails, NotBroken}
use Rattle.moxi_terms.specs.Value.{Values}
use Rattle.moxi_scripts.specs.declared.script.Query.{Query}
use Rattle.moxi_scripts.specs.Behaviour.{Trace}
use Rattle.moxi_scripts.specs.Meeting.{Hiddens, all_hold, assumptions_hold, currents_hold, ends_reached, first_failing, is_reached_before}
use Rattle.moxi_scripts.specs.Script.{PlainScript}

-- what stands where no query is
abbrev pub no_query : Query
no_query = record { name = []; assumptions = []; currents = []; reachables = [] }

-- the query of this number
abbrev pub query_at : List Query → ℕ → Query
query_at qs i = slice_index_or qs i no_query

-- The query's tests of a step of so many, given which formulas were reached before: its assumptions, at step 0 its current
-- conditions, and at the last step its reachable formulas.
abbrev pub query_tests : PlainScript → Query → ℕ → (ℕ → Bool) → ℕ → Values → List (Bool × Clause)
query_tests s q last before zero now = (assumptions_hold s q now, AssumptionFails) ∷ (currents_hold s q now, CurrentFails) ∷ (ends_reached s q last before 0 now, NotBroken) ∷ []
query_tests s q last before (suc j) now = (assumptions_hold s q now, AssumptionFails) ∷ (ends_reached s q last before (suc j) now, NotBroken) ∷ []

-- nothing fails of what the query asks of the steps 0 to k of a trace
abbrev pub NothingFails : PlainScript → Query → ℕ → Trace → Type 0
NothingFails s q k trace = (j : ℕ) → j ≤ k → first_failing (query_tests s q k (is_reached_before s trace j) j (trace j)) ≡ None

-- the tests of a step by the formulas of the system and its subsystems
abbrev pub system_tests : PlainScript → Trace → Hiddens → ℕ → List (Bool × Clause)
system_tests s trace hs zero = (all_hold s (λ x. x.init) 0 0 trace hs, InitFails) ∷ (all_hold s (λ x. x.inv) 0 0 trace hs, InvarFails) ∷ []
system_tests s trace hs (suc j) = (all_hold s (λ x. x.trans) j (suc j) trace hs, TransFails) ∷ (all_hold s (λ x. x.inv) (suc j) (suc j) trace hs, InvarFails) ∷ []
