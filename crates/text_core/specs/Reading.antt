-- How reading a file piece by piece can end.
use Rattle.std.specs.Prelude.{◌≡◌, ◌≤◌, ◌<◌, ℕ, List, length, Option, Some, None}
use Rattle.text_core.specs.Outside.{HasNewFault}
use Rattle.text_core.specs.declared.errors.ReadEnd.{ReadEnd}
use Rattle.text_core.specs.declared.errors.ReadEnd.TheVariants.{Fault, TooLong, NoMemory}

-- more bytes than the limit, where they are exposed
abbrev pub IsPast : Option (List ℕ) → ℕ → Type 0
IsPast None limit = Unit {0}
IsPast (Some bytes) limit = limit < length bytes

-- why reading ended before the end, by the count of faults before and now and by what was read with what is left
abbrev pub IsReadEnd : ℕ → ℕ → Option (List ℕ) → ℕ → ReadEnd → Type 0
IsReadEnd before now held limit Fault = HasNewFault before now × (before ≤ now)
IsReadEnd before now held limit TooLong = (now ≡ before) × IsPast held limit
IsReadEnd before now held limit NoMemory = now ≡ before
