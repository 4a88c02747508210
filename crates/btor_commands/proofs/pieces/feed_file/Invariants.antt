use Rattle.std.proofs.Common.{◌≡◌, ◌≤◌, ◌<◌, ◌-◌, false, length}
use Rattle.text_core.specs.Outside.{exposed_file, IsMissing, IsBegun}
use Rattle.btor_judge.specs.Judging.{has_ended}
use Rattle.btor_commands.specs.Limits.{most_witness_bytes}
use Rattle.btor_commands.specs.Pieces.{HoldsFront}
use Rattle.btor_commands.proofs.pieces.feed_file.Given as goal

abbrev pub invariant-pieces : goal.invariant-pieces
invariant-pieces g l = record {
  room : 0 < length l.buffer;
  within : l.count ≤ most_witness_bytes;
  present : ¬ IsMissing (g.F.Shelf.files l.fn.shelf) l.name;
  front : HoldsFront (exposed_file (g.F.Shelf.files l.fn.shelf) l.name) l.nodes l.judge l.count (g.F.Shelf.left l.shelf);
  going : has_ended l.judge ≡ false;
  files : g.F.Shelf.files l.shelf ≡ g.F.Shelf.files l.fn.shelf;
  begun : IsBegun (g.F.Shelf.files l.fn.shelf) (g.F.Shelf.begun l.shelf) l.name;
  steady : g.F.Shelf.faults l.shelf ≡ g.F.Shelf.faults l.fn.shelf;
}

abbrev pub decreases-pieces : goal.decreases-pieces
decreases-pieces g l = most_witness_bytes - l.count
