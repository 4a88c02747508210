-- The greatest sizes of the files that are read.
use Rattle.std.specs.Prelude.{ℕ}

-- the most bytes of a BTOR2 text
abbrev pub most_btor_bytes : ℕ
most_btor_bytes = 134217728

-- the most bytes of a witness
abbrev pub most_witness_bytes : ℕ
most_witness_bytes = 67108864
