-- The rest of the instances from a number on.
use Rattle.std.proofs.Common.{◌≡◌, ℕ, ◌+◌, List, suc, ◌∷◌, ap, ◌∙◌, arith}
use Rattle.std.specs.List.{slice_get}
use Rattle.smv_meaning.specs.Instances.{Instance}

-- the rest of the instances from a number on
abbrev pub IsRest : List Instance → ℕ → List Instance → Type 0
IsRest t i rest = (n : ℕ) → slice_get t (i + n) ≡ slice_get rest n

pub rest_more : (t : List Instance) (i : ℕ) (at : Instance) (rest : List Instance) → IsRest t i (at ∷ rest) → IsRest t (i + 1) rest
rest_more t i at rest h n = let s : (i + 1) + n ≡ i + suc n = omega arith in ap (slice_get t) s ∙ h (suc n)
