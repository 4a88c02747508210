-- Lists of environments whose steps suit the system are its traces, and the other way.
use Rattle.std.proofs.Common.{◌≡◌, ℕ, suc, ◌<◌, ◌≤◌, List, [], ◌∷◌, length, refl, arith}
use Rattle.std.specs.List.{AllByRecursion}
use Rattle.moxi_terms.specs.declared.data.Sort.{Sort}
use Rattle.moxi_terms.specs.declared.data.Datum.{Datum}
use Rattle.moxi_terms.specs.declared.term.Enumeration.{Enumeration}
use Rattle.moxi_terms.specs.Sorts.{Fit}
use Rattle.moxi_terms.specs.Tree.{sorts_of}
use Rattle.moxi_terms.specs.Value.{at}
use Rattle.moxi_scripts.specs.Script.{variables_in}
use Rattle.moxi_scripts.specs.Behaviour.{Suits, trace_of}
use Rattle.smv_script.specs.Script.{symbol_sort, system_of}
use Rattle.smv_flatten.specs.FlatModel.{FlatModel, flat_plain}
use Rattle.smv_script_laws.specs.EnvironmentLaws.{SuitsSystem}
use Rattle.smv_to_moxi.specs.Lifting.{IsStepOf, IsTraceOf}
use Rattle.smv_to_moxi.proofs.LiftedParts.{fit_at}

suits_fit : (es : List Enumeration) (sorts : List Sort) (env : List Datum) → length env ≡ length sorts → Suits es sorts (at env) → Fit es sorts env
suits_fit es [] [] l s = tt
suits_fit es [] (d ∷ ds) l s = absurd (omega (arith, l))
suits_fit es (t ∷ ts) [] l s = absurd (omega (arith, l))
suits_fit es (t ∷ ts) (d ∷ ds) l s = (s.each 0 t refl, suits_fit es ts ds (omega (arith, l)) (record { each = λ v u h. s.each (suc v) u h }))

module _ (f : FlatModel) where
  abbrev pub sorts : List Sort
  sorts = sorts_of (variables_in (system_of (flat_plain f) f.width))

  pub step_suits : (env : List Datum) → IsStepOf f env → SuitsSystem (flat_plain f) f.width (at env)
  step_suits env s = record { each = λ v t h. (fit_at (symbol_sort f.symbols) sorts env v t s h).1 }

  steps_fit : (envs : List (List Datum)) → AllByRecursion (λ env. length env ≡ length sorts) envs → ((j : ℕ) → j < length envs → SuitsSystem (flat_plain f) f.width (trace_of envs j)) → AllByRecursion (IsStepOf f) envs
  steps_fit [] a s = tt
  steps_fit (env ∷ envs) a s = (suits_fit (symbol_sort f.symbols) sorts env a.0 (s 0 (omega arith)), steps_fit envs a.1 (λ j l. s (suc j) (omega (arith, l))))

  -- each environment has as many data as the system has variables, and at each step each datum is of its variable's sort
  pub trace_suits : (envs : List (List Datum)) → 1 ≤ length envs → AllByRecursion (λ env. length env ≡ length sorts) envs
      → ((j : ℕ) → j < length envs → SuitsSystem (flat_plain f) f.width (trace_of envs j)) → IsTraceOf f envs
  trace_suits envs some a s = record { some = some; steps = steps_fit envs a s }
