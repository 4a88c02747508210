-- Lists of names in which none occurs twice.
use Rattle.std.specs.Prelude.{◌≡◌, ℕ, List, Some, slice_get}
use Rattle.name_maps.specs.Names.{place_of}

-- the place of each name is the one where it is
abbrev pub AreDistinct : List (List ℕ) → Type 0
AreDistinct names = (k : ℕ) (name : List ℕ) → slice_get names k ≡ Some name → place_of names name ≡ Some k
