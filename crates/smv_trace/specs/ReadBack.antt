-- What is printed of a run reads back to it.
use Rattle.std.specs.Prelude.{◌≡◌, ℕ, ◌≤◌, true, List, length}
use Rattle.text_core.specs.declared.place.Place.{Place}
use Rattle.smv_text.specs.declared.token.Token.{Token}
use Rattle.smv_text.specs.Tree.{PlainSource}
use Rattle.smv_text.specs.Lexing.{Lexes}
use Rattle.smv_text.specs.Sources.{SpellsSource}
use Rattle.smv_meaning.specs.declared.value.Run.{Run}
use Rattle.smv_meaning.specs.Phases.{IsAccepted}
use Rattle.smv_flat.specs.FlatForms.{PlainFlat, flat_smv}
use Rattle.smv_trace_text.specs.Texts.{trace_text}
use Rattle.smv_numbered.specs.Stated.{Declarations, IsStatedRun}
use Rattle.smv_trace.specs.Reading.{is_within}
use Rattle.smv_trace.specs.Texts.{most_bytes, ReadsTrace}

-- where the text is not too long and the run has not too many states, the text states the run
abbrev pub ReadsBack : Declarations → Run → List ℕ → Type 0
ReadsBack d run text = IsStatedRun d run → length text ≤ most_bytes → is_within d (length run.states) ≡ true → ReadsTrace d text run

-- what a flat form alone, without its sizes, declares
abbrev pub declared_by : PlainFlat → Declarations
declared_by f = record { items = f.items; symbols = f.symbols }

-- what is printed of a run of an accepted model, whichever of its invariants it breaks
abbrev pub PrintedReadsBack : Type 0
PrintedReadsBack = (source : PlainSource) (end : Place) (text : List ℕ) (xs : List Token) → Lexes text xs → SpellsSource source end xs → (needed : ℕ) → IsAccepted source needed
    → (j : ℕ) (run : Run) → ReadsBack (declared_by (flat_smv source)) run (trace_text (flat_smv source).items j run.states run.labels)
