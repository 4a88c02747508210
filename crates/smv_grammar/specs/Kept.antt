-- What is kept of an expression that was read: itself and its height, or where it is too high a mere mark.
use Rattle.std.specs.Prelude.{ℕ, suc, true, nat_le, min, if◌then◌else◌}
use Rattle.text_core.specs.declared.place.Place.{Place}
use Rattle.smv_text.specs.Tree.{Tree, truth}
use Rattle.smv_text.specs.Heights.{height, most_height, place_of}

-- an expression and its height
pub record Read : Type 0 where
  pub tree : Tree
  pub height : ℕ

-- An expression that is too high is not kept, so that nothing nests deeper than the limit: a leaf is at its place, with
-- a height that still tells.
abbrev pub kept : Tree → ℕ → Read
kept t n = if nat_le n most_height then record { tree = t; height = n } else record { tree = truth (place_of t) true; height = suc most_height }

-- what is kept of an expression
abbrev pub cap : Tree → Read
cap t = kept t (height t)

-- a height, or where it is over the limit one more than that
abbrev pub capped : ℕ → ℕ
capped n = min n (suc most_height)

-- what is kept of a tree at a place, by a height that may be capped
abbrev pub keep_at : Place → Tree → ℕ → Read
keep_at p t n = if nat_le n most_height then record { tree = t; height = n } else record { tree = truth p true; height = suc most_height }
