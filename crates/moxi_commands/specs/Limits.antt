-- The greatest sizes of the files that are read.
use Rattle.std.specs.Prelude.{ℕ}

-- the most bytes of a MoXI script
abbrev pub most_script_bytes : ℕ
most_script_bytes = 16777216

-- the most bytes of a response
abbrev pub most_response_bytes : ℕ
most_response_bytes = 67108864
