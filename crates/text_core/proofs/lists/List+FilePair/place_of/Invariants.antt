use Rattle.std.proofs.Common.{◌≡◌, drop}
use Rattle.text_core.specs.Outside.{file_at}
use Rattle.text_core.proofs.lists.List+FilePair.place_of.Given as goal

abbrev pub invariant-loop-i : goal.invariant-loop-i
invariant-loop-i l = file_at (drop l.i l.self) l.name ≡ file_at l.self l.name
