use Rattle.command_core.proofs.SinkLemmas.{part_put, faulted_put}
use Rattle.command_core.proofs.notes.put_pieces.Goals as goal
use Rattle.std.proofs.Common.{refl, sym}

pub returns-then-is_err : goal.returns-then-is_err
returns-then-is_err g c = (
  part_put _ _ _ _ c.loop-piece.piece-index _ _ c.write_whole.result (sym c.if-is_err.ensures.value) c.loop-piece-test.true refl c.loop-piece.invariant.0 c.write_whole.ensures.part c.write_whole.ensures.within,
  faulted_put _ _ _ c.write_whole.result (sym c.if-is_err.ensures.value) c.loop-piece.invariant.1 c.write_whole.ensures.cause,
)
