use Rattle.std.proofs.Common.{length, take, arith, sym, ap, subst}
use Rattle.std.proofs.lemmas.List.{length-take, length_push}
use Rattle.btor_tree.specs.Fits.{is_input, is_state}
use Rattle.btor_tree.proofs.Grows.{count_short, lines_short}
use Rattle.btor_frames.proofs.Loop.{count_step}
use Rattle.btor_frames.proofs.NextWords.{AreSources, one_more_source}
use Rattle.btor_frames.proofs.sources.sources.Goals as goal

pub line_source-requires-clause-few_inputs : goal.line_source-requires-clause-few_inputs
line_source-requires-clause-few_inputs c =
    omega (arith, count_short is_input (take c.loop-i.i c.args.nodes.now), length-take c.loop-i.i c.args.nodes.now, lines_short c.args.nodes.now c.len-i-end.ensures.well_formed)

pub line_source-requires-clause-few_states : goal.line_source-requires-clause-few_states
line_source-requires-clause-few_states c =
    omega (arith, count_short is_state (take c.loop-i.i c.args.nodes.now), length-take c.loop-i.i c.args.nodes.now, lines_short c.args.nodes.now c.len-i-end.ensures.well_formed)

pub line_source-requires-clause-few_lines : goal.line_source-requires-clause-few_lines
line_source-requires-clause-few_lines c = omega (arith, lines_short c.args.nodes.now c.len-i-end.ensures.well_formed)

pub with_input-input-requires : goal.with_input-input-requires
with_input-input-requires c =
    omega (arith, count_short is_input (take c.loop-i.i c.args.nodes.now), length-take c.loop-i.i c.args.nodes.now, lines_short c.args.nodes.now c.len-i-end.ensures.well_formed)

pub with_state-state-requires : goal.with_state-state-requires
with_state-state-requires c =
    omega (arith, count_short is_state (take c.loop-i.i c.args.nodes.now), length-take c.loop-i.i c.args.nodes.now, lines_short c.args.nodes.now c.len-i-end.ensures.well_formed)

pub loop-i-preserved : goal.loop-i-preserved
loop-i-preserved c =
    let inv = c.loop-i.invariant in
    record {
      sized = omega (arith, ap length c.in_ok-push.ensures.ok, inv.sized, length_push c.loop-i.sources c.line_source.result);
      at = subst (AreSources c.args.nodes.now) (sym c.in_ok-push.ensures.ok) (one_more_source c.args.nodes.now c.loop-i.i c.at-line.result.now c.loop-i.sources c.line_source.result c.at-line.ensures inv.sized inv.at c.line_source.ensures);
      input_is = omega (arith, c.with_input-input.ensures, inv.input_is, count_step is_input c.args.nodes.now c.loop-i.i c.at-line.result.now c.at-line.ensures);
      state_is = omega (arith, c.with_state-state.ensures, inv.state_is, count_step is_state c.args.nodes.now c.loop-i.i c.at-line.result.now c.at-line.ensures);
    }
