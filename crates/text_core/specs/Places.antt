-- Places in a text, in bytes.
use Rattle.std.specs.Prelude.{◌==◌, ◌+◌, ◌^◌, ◌≤◌, ℕ, if◌then◌else◌, List, [], ◌∷◌}
use Rattle.text_core.specs.declared.place.Place.{Place}

-- the place of a text's first byte
abbrev pub start : Place
start = record { line = 1; column = 1; offset = 0 }

-- the place behind a byte; a line ends after byte 10
abbrev pub next_place : Place → ℕ → Place
next_place p b =
    if b == 10 then record { line = p.line + 1; column = 1; offset = p.offset + 1 } else record { line = p.line; column = p.column + 1; offset = p.offset + 1 }

-- the place behind these bytes
abbrev pub after : Place → List ℕ → Place
after p [] = p
after p (b ∷ bs) = after (next_place p b) bs

-- the place so many bytes further in the same line
abbrev pub along : Place → ℕ → Place
along p n = record { line = p.line; column = p.column + n; offset = p.offset + n }

-- so many more bytes leave the place within its numbers
pub record Reaches (p : Place) (more : ℕ) : Type 0 where
  pub line : p.line + more ≤ 2 ^ 31 + 1
  pub column : p.column + more ≤ 2 ^ 31 + 1
  pub offset : p.offset + more ≤ 2 ^ 31
