-- What checks come to: the first that fails, or none.
use Rattle.std.specs.Prelude.{◌≡◌, ℕ, List, None, Result, Ok, Err}
use Rattle.text_core.specs.declared.end.End.{End}
use Rattle.smv_meaning.specs.Checks.{Check, first_failing, IsBad}

abbrev pub Settles : {X : Type 0} → Result X End → List Check → Type 0
Settles (Ok x) cs = first_failing cs ≡ None
Settles (Err e) cs = IsBad e (first_failing cs)

-- the checks hold, and the number is this one
abbrev pub Counts : Result ℕ End → List Check → ℕ → Type 0
Counts (Ok n) cs m = (first_failing cs ≡ None) × (n ≡ m)
Counts (Err e) cs m = IsBad e (first_failing cs)
