-- The first bytes of reserved words.
use Rattle.std.specs.Prelude.{ℕ, Bool, false, ◌==◌, ◌||◌, List, [], ◌∷◌}

-- each reserved word begins with one of these bytes
abbrev pub may_be_reserved : List ℕ → Bool
may_be_reserved [] = false
may_be_reserved (b ∷ bs) = (b == 95) || ((b == 33) || ((b == 97) || ((b == 108) || ((b == 101) || ((b == 102) || ((b == 109) || ((b == 112) || ((b == 66) || ((b == 68) || ((b == 72) || ((b == 78) || ((b == 83)))))))))))))
