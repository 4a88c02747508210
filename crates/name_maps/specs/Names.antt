-- Names and their places in a list.
use Rattle.std.specs.Prelude.{ℕ, Bool, true, ◌&&◌, Option, is_none, List, [], ◌∷◌, ◌++◌}
use Rattle.std.specs.List.{position}
use Rattle.std.specs.Str.{bytes_eq}

-- the place of the first name equal to these bytes
abbrev pub place_of : List (List ℕ) → List ℕ → Option ℕ
place_of names name = position (bytes_eq name) names

-- each name stands neither among those before nor earlier in its own list
abbrev pub are_fresh : List (List ℕ) → List (List ℕ) → Bool
are_fresh before [] = true
are_fresh before (name ∷ names) = is_none (place_of before name) && are_fresh (before ++ name ∷ []) names
