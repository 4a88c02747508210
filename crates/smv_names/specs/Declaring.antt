-- The first name that a module declares twice.
use Rattle.std.specs.Prelude.{ℕ, ◌+◌, ◌==◌, Bool, false, List, [], ◌∷◌, if◌then◌else◌, Option, Some, None}
use Rattle.smv_meaning.specs.Instances.{is_one_of}
use Rattle.smv_meaning.specs.Phases.{Declared}

-- the place of the first declaration whose name stands earlier, given the place of the first of these and the names before them
abbrev pub first_twice : ℕ → List (List ℕ) → List Declared → Option ℕ
first_twice k names [] = None
first_twice k names (d ∷ ds) = if is_one_of names d.name then Some k else first_twice (k + 1) (d.name ∷ names) ds

abbrev pub is_place : Option ℕ → ℕ → Bool
is_place None k = false
is_place (Some j) k = j == k
