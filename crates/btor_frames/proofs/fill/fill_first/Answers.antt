use Rattle.std.proofs.Common.{◌<◌, false, [], length, take, arith, ◌∙◌}
use Rattle.std.proofs.lemmas.List.{length-take}
use Rattle.btor_tree.specs.Fits.{is_input, is_state}
use Rattle.btor_tree.proofs.Grows.{count_short, lines_short}
use Rattle.btor_frames.proofs.Loop.{frame_so_far, no_last, one_more, count_step}
use Rattle.btor_frames.proofs.fill.fill_first.Goals as goal

pub put_word-seen-requires-clause-frame : goal.put_word-seen-requires-clause-frame
put_word-seen-requires-clause-frame c =
    frame_so_far false c.args.nodes.now [] c.args.supplied.now.inputs.now c.args.supplied.now.free.now c.loop-i.spare c.loop-i.i c.len-i-end.ensures.well_formed (no_last c.args.nodes.now) c.requires.handed (omega arith) c.loop-i.invariant.filled

pub put_word-seen-requires-clause-few_inputs : goal.put_word-seen-requires-clause-few_inputs
put_word-seen-requires-clause-few_inputs c =
    omega (arith, count_short is_input (take c.loop-i.i c.args.nodes.now), length-take c.loop-i.i c.args.nodes.now, lines_short c.args.nodes.now c.len-i-end.ensures.well_formed)

pub put_word-seen-requires-clause-few_states : goal.put_word-seen-requires-clause-few_states
put_word-seen-requires-clause-few_states c =
    omega (arith, count_short is_state (take c.loop-i.i c.args.nodes.now), length-take c.loop-i.i c.args.nodes.now, lines_short c.args.nodes.now c.len-i-end.ensures.well_formed)

pub loop-i-preserved : goal.loop-i-preserved
loop-i-preserved c =
    let inv = c.loop-i.invariant in
    let inside : c.loop-i.i < length c.loop-i.spare = omega arith in
    let put = one_more false c.args.nodes.now [] c.args.supplied.now.inputs.now c.args.supplied.now.free.now c.loop-i.spare c.put_word-seen.new.spare c.loop-i.i c.at.result.now inside c.at.ensures inv.filled c.put_word-seen.ensures.word in
    record {
      long = put.0 ∙ inv.long;
      filled = put.1;
      input_is = omega (arith, c.put_word-seen.ensures.next_input, inv.input_is, count_step is_input c.args.nodes.now c.loop-i.i c.at.result.now c.at.ensures);
      state_is = omega (arith, c.put_word-seen.ensures.next_state, inv.state_is, count_step is_state c.args.nodes.now c.loop-i.i c.at.result.now c.at.ensures);
    }
