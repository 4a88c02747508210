-- What a shelf of files and a sink of bytes tell at one moment.
use Rattle.std.specs.Prelude.{ℕ, List, Option}
use Rattle.text_core.specs.Outside.{Files}
use Rattle.text_core.specs.declared.outside.Shelf as Shelf
use Rattle.text_core.specs.declared.outside.Sink as Sink

pub record ShelfState : Type 0 where
  -- the name of the file that was opened last
  pub begun : Option (List ℕ)
  -- the files, where the shelf exposes them
  pub files : Option Files
  -- the bytes still to be read, where the shelf exposes them
  pub left : Option (List ℕ)
  -- the number of faults so far
  pub faults : ℕ

pub record SinkState : Type 0 where
  -- the bytes taken so far, where the sink exposes them
  pub taken : Option (List ℕ)
  -- the number of faults so far
  pub faults : ℕ

-- the members of the trait `Shelf`, of one shelf
abbrev pub shelf_state : {F : Type 0} → Shelf.Ghosts F → F → ShelfState
shelf_state member shelf = record {
  begun = member.begun shelf;
  files = member.files shelf;
  left = member.left shelf;
  faults = member.faults shelf;
}

-- the members of the trait `Sink`, of one sink
abbrev pub sink_state : {K : Type 0} → Sink.Ghosts K → K → SinkState
sink_state member sink = record { taken = member.taken sink; faults = member.faults sink }
