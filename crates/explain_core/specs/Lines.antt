-- The lines of a text, and the part of a line that is shown.
use Rattle.std.specs.Prelude.{◌≡◌, ◌==◌, ◌≤◌, ◌+◌, ◌-◌, ℕ, min, nat_le, List, Option, slice_get, if◌then◌else◌}
use Rattle.std.specs.List.{slice_split}
use Rattle.explain_core.specs.declared.lines.Window.{Window}

-- the lines of a text, each without its line end; a line ends at byte 10
abbrev pub lines_of : List ℕ → List (List ℕ)
lines_of text = slice_split (λ b. b == 10) text

-- the line of a number, counted from 1
abbrev pub line_of_number : List (List ℕ) → ℕ → Option (List ℕ)
line_of_number lines number = slice_get lines (number - 1)

-- the ends of the part of a line of this length that is shown around a byte: 60 bytes before it and as many from it on
abbrev pub window_start : ℕ → ℕ → ℕ
window_start length at = if nat_le length 120 then 0 else min (at - 60) (length - 120)

abbrev pub window_end : ℕ → ℕ → ℕ
window_end length at = if nat_le length 120 then length else min (at - 60) (length - 120) + 120

-- a part of a line around a byte, or behind its last: at most 120 bytes, and all where there are no more
pub record IsWindow (length at : ℕ) (w : Window) : Type 0 where
  pub before : w.start ≤ at
  pub behind : at ≤ w.end
  pub within : w.end ≤ length
  pub short : w.end ≤ w.start + 120
  pub whole : length ≤ 120 → (w.start ≡ 0) × (w.end ≡ length)
