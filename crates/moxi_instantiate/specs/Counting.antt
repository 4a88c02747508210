-- Counts that stop just above every limit.
use Rattle.std.specs.Prelude.{◌≡◌, ℕ, min, List, slice_index_or}
use Rattle.moxi_instantiate.specs.declared.counts.TheConstants.{MOST}

-- a count, or MOST where it is greater
abbrev pub capped : ℕ → ℕ
capped n = min n MOST

-- what was counted for this number; nothing beyond
abbrev pub known : List ℕ → ℕ → ℕ
known counts n = slice_index_or counts n 0

-- what was counted for each number is what there is, up to the cap
abbrev pub AreCounted : (ℕ → ℕ) → List ℕ → Type 0
AreCounted exact counts = (n : ℕ) → capped (known counts n) ≡ capped (exact n)
