-- What a model comes to: its first failing check, or none.
use Rattle.std.specs.Prelude.{List, Result}
use Rattle.text_core.specs.declared.end.End.{End}
use Rattle.smv_meaning.specs.Checks.{Check}
use Rattle.smv_names.specs.Outcome.{Settles}

-- no check fails, or the refusal is that of the first that fails; of running out of memory nothing is said
abbrev pub Decides : {X : Type 0} → Result X End → List Check → Type 0
Decides r cs = Settles r cs
