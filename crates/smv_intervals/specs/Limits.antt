-- Types within the limit of integers (this translator's own).
use Rattle.std.specs.Prelude.{◌≡◌, true, false, Option, Some, None}
use Rattle.smv_meaning.specs.Types.{ExprType, in_limit}
use Rattle.smv_intervals.specs.declared.types.Ty.{Ty}
use Rattle.smv_intervals.specs.View.{seen}

-- the type, where it is within the limit of integers
abbrev pub FitsLimit : Option Ty → ExprType → Type 0
FitsLimit (Some ty) t = (in_limit t ≡ true) × (seen ty ≡ t)
FitsLimit None t = in_limit t ≡ false
