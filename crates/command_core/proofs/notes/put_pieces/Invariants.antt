use Rattle.std.proofs.Common.{◌≡◌, take}
use Rattle.text_core.specs.Outside.{grown}
use Rattle.command_core.specs.Notes.{joined}
use Rattle.command_core.proofs.notes.put_pieces.Given as goal

abbrev pub invariant-loop-piece : goal.invariant-loop-piece
invariant-loop-piece g l =
    (g.N.Sink.taken l.notes ≡ grown (g.N.Sink.taken l.fn.notes) (joined (take l.piece-index l.pieces)))
    × (g.N.Sink.faults l.notes ≡ g.N.Sink.faults l.fn.notes)
