-- What the judge says of the witness of a trace, and that the trace comes back from it, also from its text.
use Rattle.std.specs.Prelude.{◌≡◌, ◌↔◌, ℕ, ◌<◌, ◌≤◌, List, length}
use Rattle.std.specs.List.{AllByRecursion}
use Rattle.text_core.specs.declared.verdict.Verdict.TheVariants.{Yes}
use Rattle.btor_tree.specs.declared.lines.Line.{Line}
use Rattle.btor_witness.specs.Judging.{judged_btor}
use Rattle.btor_witness.specs.Printing.{IsWithinLimits, IsWitness, printed}
use Rattle.btor_witness.specs.Sizes.{sizes_of}
use Rattle.btor_witness.specs.Texts.{SpellsWitness}
use Rattle.moxi_terms.specs.declared.data.Datum.{Datum}
use Rattle.moxi_terms.specs.Sorts.{Fit}
use Rattle.moxi_terms.specs.Tree.{sorts_of}
use Rattle.moxi_flat.specs.FlatSystem.{PlainFlatSystem}
use Rattle.moxi_layout.specs.LayoutLaws.{IsLaidOut}
use Rattle.moxi_lift.specs.Laws.{MeetsQueryOf}
use Rattle.moxi_lift.specs.Lifted.{lifted}
use Rattle.moxi_lower.specs.Lowered.{lowered}

-- steps that have a value of its sort for each variable
abbrev pub AreSteps : PlainFlatSystem → List (List Datum) → Type 0
AreSteps f envs = AllByRecursion (Fit f.scope.enumerations (sorts_of f.variables)) envs

-- something of each query's number and each trace of one or more steps
abbrev pub OfTraces : PlainFlatSystem → (ℕ → List (List Datum) → Type 0) → Type 0
OfTraces f P = (j : ℕ) → j < length f.queries → (envs : List (List Datum)) → 1 ≤ length envs → AreSteps f envs → P j envs

-- ---- laws

-- the witness of a trace is lifted to the trace again
abbrev pub LoweredAreLifted : Type 0
LoweredAreLifted = (f : PlainFlatSystem) (j : ℕ) (envs : List (List Datum)) → AreSteps f envs → lifted f (lowered f j envs) ≡ envs

-- it is a witness for all lines that lay the system out
abbrev pub LoweredAreWitnesses : Type 0
LoweredAreWitnesses = (f : PlainFlatSystem) (lines : List Line) → IsLaidOut f lines → OfTraces f (λ j envs. IsWitness (sizes_of lines) (lowered f j envs))

-- the judge accepts it exactly where the trace meets the query of the bad line
abbrev pub LoweredAreJudged : Type 0
LoweredAreJudged = (f : PlainFlatSystem) (lines : List Line) → IsLaidOut f lines → OfTraces f (λ j envs. judged_btor lines (lowered f j envs) Yes ↔ MeetsQueryOf f j envs)

-- its printed text, where it is within the limits of a witness, spells it again
abbrev pub LoweredAreRead : Type 0
LoweredAreRead = (f : PlainFlatSystem) (lines : List Line) → IsLaidOut f lines → OfTraces f (λ j envs. IsWithinLimits lines (lowered f j envs) → SpellsWitness lines (printed lines (lowered f j envs)) (lowered f j envs))
