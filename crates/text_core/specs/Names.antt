-- What a list of names keeps in place.
use Rattle.std.specs.Prelude.{ℕ, List, [], ◌∷◌}
use Rattle.text_core.specs.declared.names.Held.{Held}
use Rattle.text_core.specs.declared.names.Held.TheVariants.{One, Many}

-- the names that are held
abbrev pub held_names : Held → List (List ℕ)
held_names (One name) = name ∷ []
held_names (Many names) = names.items
