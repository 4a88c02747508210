use Rattle.std.proofs.Common.{sym, ap, ◌∙◌}
use Rattle.btor_tree.specs.Fits.{is_state, is_input}
use Rattle.btor_witness.specs.Printing.{rising}
use Rattle.btor_witness.proofs.Tables.{part_below, length_widths}
use Rattle.btor_witness.proofs.print.rising_frame.Goals as goal

pub rising-requires : goal.rising-requires
rising-requires c = part_below c.args.nodes.now is_state c.states.result c.args.frame.now.states c.states.ensures c.requires.states

pub rising-requires-2 : goal.rising-requires-2
rising-requires-2 c = part_below c.args.nodes.now is_input c.inputs.result c.args.frame.now.inputs c.inputs.ensures c.requires.inputs

pub returns : goal.returns
returns c =
    let lines = c.args.nodes.now in
    let states = c.in_ok-rising.ensures ∙ ap (rising c.args.frame.now.states) (c.states.ensures ∙ sym (length_widths lines is_state lines)) in
    let inputs = c.in_ok-rising-2.ensures ∙ ap (rising c.args.frame.now.inputs) (c.inputs.ensures ∙ sym (length_widths lines is_input lines)) in
    cc
