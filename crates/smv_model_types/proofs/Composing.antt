-- Checks one after another: the first that fails refuses.
use Rattle.std.proofs.Common.{◌≡◌, Bool, false, List, [], ◌∷◌, ◌++◌, Some, None, if◌then◌else◌, sym, ap, ◌∙◌}
use Rattle.text_core.specs.declared.place.Place.{Place}
use Rattle.text_core.specs.declared.place.Refusal.{Refusal}
use Rattle.smv_meaning.specs.Checks.{Check, check, first_failing}
use Rattle.smv_meaning.specs.laws.Composing.{goes}

-- the check of a fit behind those of an expression
pub misfit : (cs : List Check) (p : Place) (b : Bool) (why : Refusal) → first_failing cs ≡ None → b ≡ false → why ≡ (check 16 p false).refusal → first_failing (cs ++ check 16 p b ∷ []) ≡ Some why
misfit cs p b why h e w = goes cs (check 16 p b ∷ []) h ∙ ap (λ c. if c then None else Some (check 16 p c).refusal) e ∙ ap Some (sym w)
