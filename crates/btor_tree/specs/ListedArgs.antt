-- The arguments of a line as a list.
use Rattle.std.specs.Prelude.{ℕ, List, [], ◌∷◌, take}
use Rattle.btor_tree.specs.declared.args.Arg.{Arg}

-- the first of three
abbrev pub listed : ℕ → Arg → Arg → Arg → List Arg
listed count a b c = take count (a ∷ b ∷ c ∷ [])
