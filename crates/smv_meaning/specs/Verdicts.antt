-- What a verdict says of a stated run.
use Rattle.std.specs.Prelude.{◌≡◌, ℕ, List}
use Rattle.text_core.specs.declared.verdict.Verdict.TheVariants.{Yes}
use Rattle.smv_text.specs.Tree.{PlainSource}
use Rattle.smv_meaning.specs.Values.{Valuation}
use Rattle.smv_meaning.specs.Runs.{IsRun, LastBreaks, judged_smv}

-- it is Yes exactly where the stated states and labels are a run of the model whose last state breaks the invariant
abbrev pub YesIsRun : Type 0
YesIsRun = (source : PlainSource) (j : ℕ) (states labels : List Valuation)
    → (judged_smv source j states labels ≡ Yes → IsRun source states labels × LastBreaks source j states) × (IsRun source states labels × LastBreaks source j states → judged_smv source j states labels ≡ Yes)
