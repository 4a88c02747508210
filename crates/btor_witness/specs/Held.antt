-- What a part of a frame holds beside its statements.
use Rattle.std.specs.Prelude.{◌≡◌, ℕ, ◌<◌, Bool, true, false, List, length, get_or}
use Rattle.btor_witness.specs.declared.witness.Stated.{Stated}
use Rattle.btor_witness.specs.Parts.{is_stated}

-- nothing is marked
pub record IsCleared (marks : List Bool) : Type 0 where
  pub none : (i : ℕ) → get_or marks i false ≡ false

-- what is marked is stated
pub record AreStatedAt (marks : List Bool) (stated : List Stated) : Type 0 where
  pub marked : (i : ℕ) → get_or marks i false ≡ true → is_stated stated i ≡ true
  pub within : (i : ℕ) → is_stated stated i ≡ true → i < length marks

-- just what is stated is marked
pub record AreMarked (widths : List ℕ) (marks : List Bool) (stated : List Stated) : Type 0 where
  pub sized : length marks ≡ length widths
  pub by_index : (i : ℕ) → get_or marks i false ≡ is_stated stated i
