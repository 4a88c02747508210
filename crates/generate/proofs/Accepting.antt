-- The judge says yes of runs whose last state breaks an invariant.
use Rattle.std.proofs.Common.{◌≡◌, ℕ, Bool, true, false, List, ap, refl}
use Rattle.std.proofs.Math.Bool.{Bool-set}
use Rattle.std.proofs.Math.Logic.{∥∥₁_elim}
use Rattle.text_core.specs.declared.verdict.Verdict.{Verdict}
use Rattle.text_core.specs.declared.verdict.Verdict.TheVariants.{Yes, No}
use Rattle.smv_text.specs.Tree.{PlainSource}
use Rattle.smv_meaning.specs.Runs.{IsRun, LastBreaks, judged_smv}
use Rattle.smv_meaning.specs.Values.{Valuation}
use Rattle.smv_meaning.specs.Verdicts.{YesIsRun}
use Rattle.generate.specs.Verdicts.{is_yes}

pub always_yes : YesIsRun → (source : PlainSource) (j : ℕ) (states labels : List Valuation) → ∥ IsRun source states labels × LastBreaks source j states ∥₁ → is_yes (judged_smv source j states labels) ≡ true
always_yes law source j states labels h = ∥∥₁_elim h (Bool-set (is_yes (judged_smv source j states labels)) true) (λ b. ap is_yes ((law source j states labels).1 b))

pub yes_is : (v : Verdict) → is_yes v ≡ true → v ≡ Yes
yes_is Yes h = refl
yes_is (No step clause) h = absurd (cc)

pub no_both : (b : Bool) → b ≡ true → b ≡ false → ⊥
no_both b e f = absurd (cc)
