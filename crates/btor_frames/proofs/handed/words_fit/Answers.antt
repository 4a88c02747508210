use Rattle.std.proofs.Common.{◌≤◌, length, take, rules, arith, sym, ◌∙◌}
use Rattle.std.proofs.lemmas.Bool.{eqb-true, eq-eqb}
use Rattle.std.proofs.lemmas.List.{length-take}
use Rattle.btor_tree.specs.Fits.{is_input, is_state}
use Rattle.btor_tree.proofs.Grows.{count_short, lines_short}
use Rattle.btor_frames.proofs.Loop.{count_step}
use Rattle.btor_frames.proofs.Handing.{fits_more, fits_whole, states_counted}
use Rattle.btor_frames.proofs.handed.words_fit.Goals as goal

pub with_input-input-requires : goal.with_input-input-requires
with_input-input-requires c =
    omega (arith, c.loop-i.invariant.input_is, count_short is_input (take c.loop-i.i c.args.nodes.now), length-take c.loop-i.i c.args.nodes.now, lines_short c.args.nodes.now c.len-i-end.ensures.well_formed)

pub with_state-state-requires : goal.with_state-state-requires
with_state-state-requires c =
    omega (arith, c.loop-i.invariant.state_is, count_short is_state (take c.loop-i.i c.args.nodes.now), length-take c.loop-i.i c.args.nodes.now, lines_short c.args.nodes.now c.len-i-end.ensures.well_formed)

pub loop-i-preserved : goal.loop-i-preserved
loop-i-preserved c =
    let inv = c.loop-i.invariant in
    record {
      input_is = omega (arith, c.with_input-input.ensures, inv.input_is, count_step is_input c.args.nodes.now c.loop-i.i c.at.result.now c.at.ensures);
      state_is = omega (arith, c.with_state-state.ensures, inv.state_is, count_step is_state c.args.nodes.now c.loop-i.i c.at-in-loop-i.result.now c.at-in-loop-i.ensures);
      fits = fits_more c.args.nodes.now c.args.inputs.now c.args.free.now c.loop-i.i c.supplied_word-handed.result c.supplied_word-handed.ensures (c.line_fits.ensures.0 (search rules)) inv.fits;
    }

pub returns-then-len-input : goal.returns-then-len-input
returns-then-len-input c =
    let done : length c.args.nodes.now ≤ c.loop-i.i = omega (arith, c.loop-i-test.false, c.len-i-end.ensures.value) in
    let inputs = sym c.len.ensures ∙ c.if-len-input.true in (
      λ t. fits_whole c.args.nodes.now c.args.inputs.now c.args.free.now c.loop-i.i c.loop-i.input c.loop-i.state done c.loop-i.invariant inputs (sym c.len-then-len-input.ensures ∙ eqb-true c.len-then-len-input.result c.loop-i.state t),
      λ h. eq-eqb c.len-then-len-input.result c.loop-i.state (c.len-then-len-input.ensures ∙ states_counted c.args.nodes.now c.args.inputs.now c.args.free.now c.loop-i.i c.loop-i.input c.loop-i.state done c.loop-i.invariant h),
    )
