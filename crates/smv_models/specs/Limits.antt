-- The greatest size of a model that is read.
use Rattle.std.specs.Prelude.{ℕ}

-- the most bytes of an SMV model
abbrev pub most_smv_bytes : ℕ
most_smv_bytes = 1048576
