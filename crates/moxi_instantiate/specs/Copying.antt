-- Numbers that stand for those of variables.
use Rattle.std.specs.Prelude.{ℕ, List, slice_index_or}

-- the number at the place of a variable
abbrev pub number_in : List ℕ → ℕ → ℕ
number_in places v = slice_index_or places v 0
