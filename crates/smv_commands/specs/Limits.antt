-- The greatest size of a trace that is read.
use Rattle.std.specs.Prelude.{ℕ}

-- the most bytes of a trace
abbrev pub most_trace_bytes : ℕ
most_trace_bytes = 67108864
