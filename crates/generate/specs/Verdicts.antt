-- Whether a verdict is Yes.
use Rattle.std.specs.Prelude.{Bool, true, false}
use Rattle.text_core.specs.declared.verdict.Verdict.{Verdict}
use Rattle.text_core.specs.declared.verdict.Verdict.TheVariants.{Yes, No}

abbrev pub is_yes : Verdict → Bool
is_yes Yes = true
is_yes (No step clause) = false
