-- The traces of a model's script that meet a query represent the model's runs that break an invariant.
use Rattle.std.specs.Prelude.{◌≡◌, ◌<◌, ℕ, List, Some, length, map, slice_get}
use Rattle.text_core.specs.declared.place.Place.{Place}
use Rattle.smv_text.specs.declared.token.Token.{Token}
use Rattle.smv_text.specs.Tree.{PlainSource}
use Rattle.smv_text.specs.Lexing.{Lexes}
use Rattle.smv_text.specs.Sources.{SpellsSource}
use Rattle.smv_meaning.specs.declared.value.Run.{Run}
use Rattle.smv_meaning.specs.Values.{Valuation, given}
use Rattle.smv_meaning.specs.Instances.{instances_of}
use Rattle.smv_meaning.specs.Phases.{IsAccepted, invariants_in}
use Rattle.smv_meaning.specs.Runs.{IsRun, LastBreaks}
use Rattle.smv_flat.specs.FlatForms.{flat_smv}
use Rattle.smv_flat.specs.FlatWidth.{width_of}
use Rattle.moxi_scripts.specs.Behaviour.{Trace}
use Rattle.moxi_scripts.specs.Meeting.{MeetsQuery}
use Rattle.smv_script.specs.Script.{coding_of, script_for}
use Rattle.smv_script_laws.specs.Decoding.{run_of}
use Rattle.moxi_scripts.specs.Script.{query_of}

-- a run of k transitions whose last state breaks invariant j
pub record BreaksAt (source : PlainSource) (j k : ℕ) (states labels : List Valuation) : Type 0 where
  pub counted : length labels ≡ k
  pub run : IsRun source states labels
  pub breaks : LastBreaks source j states

-- some run of k transitions ends in a state that breaks invariant j
abbrev pub HasRun : PlainSource → ℕ → ℕ → Type 0
HasRun source j k = (states : List Valuation) × (labels : List Valuation) × BreaksAt source j k states labels

-- the number of invariants of a model, over all its instances
abbrev pub invariant_count : PlainSource → ℕ
invariant_count source = length (invariants_in (instances_of source))

-- the run that the steps 0 to k of a trace represent
abbrev pub decoded_run : PlainSource → Trace → ℕ → Run
decoded_run source trace k = run_of (flat_smv source) (coding_of (flat_smv source) (width_of (flat_smv source))) trace k

-- a trace that meets query j at step k represents a run that breaks invariant j after k transitions
abbrev pub TracesAreRuns : Type 0
TracesAreRuns = (source : PlainSource) (end : Place) (text : List ℕ) (xs : List Token) → Lexes text xs → SpellsSource source end xs → (needed : ℕ) → IsAccepted source needed
    → (j k : ℕ) (trace : Trace) → MeetsQuery (script_for source) (query_of j) k trace → BreaksAt source j k (map given (decoded_run source trace k).states) (map given (decoded_run source trace k).labels)

-- each such run is represented by such a trace
abbrev pub RunsHaveTraces : Type 0
RunsHaveTraces = (source : PlainSource) (end : Place) (text : List ℕ) (xs : List Token) → Lexes text xs → SpellsSource source end xs → (needed : ℕ) → IsAccepted source needed
    → (j k : ℕ) (states labels : List Valuation) → BreaksAt source j k states labels → (trace : Trace) × MeetsQuery (script_for source) (query_of j) k trace

-- the script has a query for each invariant, in their order
pub record HasQueries (source : PlainSource) : Type 0 where
  pub counted : length (script_for source).check.queries ≡ invariant_count source
  pub each : (j : ℕ) → j < invariant_count source → slice_get (script_for source).check.queries j ≡ Some (query_of j)
