use Rattle.std.proofs.Common.{◌<◌, true, length, arith}
use Rattle.btor_frames.proofs.Loop.{frame_so_far}
use Rattle.btor_frames.proofs.NextWords.{next_word}
use Rattle.btor_frames.proofs.next.fill_next.Goals as goal

pub put_source-requires-clause-frame : goal.put_source-requires-clause-frame
put_source-requires-clause-frame c =
    frame_so_far true c.args.nodes.now c.args.last.now c.args.supplied.now.inputs.now c.args.supplied.now.free.now c.loop-i.spare c.loop-i.i c.len-i-end.ensures.well_formed (λ t. c.requires.last_frame) c.requires.handed (omega arith) c.loop-i.invariant.filled

pub loop-i-preserved : goal.loop-i-preserved
loop-i-preserved c =
    let inv = c.loop-i.invariant in
    let inside : c.loop-i.i < length c.args.nodes.now = omega arith in
    let next = next_word c.args.nodes.now c.args.last.now c.args.supplied.now.inputs.now c.args.supplied.now.free.now c.loop-i.spare c.put_source.new.spare c.loop-i.i c.args.tables.now.sources inside inv.long inv.filled inv.blank c.put_source.ensures in
    record { long = next.long; filled = next.filled; blank = next.blank }
