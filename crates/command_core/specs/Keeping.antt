-- What a call leaves of a shelf that it reads files from.
use Rattle.std.specs.Prelude.{◌≡◌, ◌<◌, ◌≤◌, ℕ, List, Option}
use Rattle.text_core.specs.Outside.{Files}
use Rattle.command_core.specs.Giving.{BeginsAmong}

-- The files are the same, the count of faults doesn't fall, and the file that was begun last is one of these names or the one from
-- before. Where a fault was counted, the call says that a file was not read.
pub record KeepsShelf (exposed left : Option Files) (before now : ℕ) (first last : Option (List ℕ)) (names : List (List ℕ)) (unread : Type 0) : Type 0 where
  pub fault : before < now → unread
  pub later : before ≤ now
  pub files : left ≡ exposed
  pub begun : BeginsAmong exposed first last names
