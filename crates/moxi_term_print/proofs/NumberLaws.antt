-- Names by their numbers.
use Rattle.std.proofs.Common.{◌≡◌, ℕ, zero, suc, Option, None, Some, List, [], ◌∷◌, map, refl}
use Rattle.std.specs.Prelude.{slice_get, slice_index_or}
use Rattle.std.specs.Option.{option_map}

-- the name that a number finds, or none
abbrev pub name_or_none : Option (List ℕ) → List ℕ
name_or_none None = []
name_or_none (Some x) = x

pub name_found : {A : Type 0} (f : A → List ℕ) (xs : List A) (n : ℕ) → slice_index_or (map f xs) n [] ≡ name_or_none (option_map f (slice_get xs n))
name_found f [] n = refl
name_found f (x ∷ xs) zero = refl
name_found f (x ∷ xs) (suc n) = name_found f xs n
