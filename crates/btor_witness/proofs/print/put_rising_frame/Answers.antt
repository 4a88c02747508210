use Rattle.std.proofs.Common.{◌≡◌, ◌++◌, ◌∙◌, List, length, sym, ap, subst}
use Rattle.std.specs.Prelude.{OnOk}
use Rattle.btor_tree.specs.Fits.{is_state, is_input}
use Rattle.btor_witness.specs.declared.witness.Stated.{Stated}
use Rattle.btor_witness.specs.declared.witness.Frame.{Frame}
use Rattle.btor_witness.specs.Sizes.{sizes_of, widths_of}
use Rattle.btor_witness.specs.Printing.{frame_text, rising, rising_frame}
use Rattle.btor_witness.proofs.Order.{rising_stays}
use Rattle.btor_witness.proofs.Tables.{length_widths, part_below}
use Rattle.btor_witness.proofs.print.put_rising_frame.Goals as goal

pub returns-then-rises-2 : goal.returns-then-rises-2
returns-then-rises-2 c =
    let lines = c.args.nodes.now in
    let f = c.args.frame.now in
    let states : rising f.states (length (widths_of is_state lines)) ≡ f.states =
    rising_stays 0 _ f.states (sym c.rises.ensures ∙ c.if-rises.true) (part_below lines is_state _ f.states (length_widths lines is_state lines) c.requires.states) in
    let inputs : rising f.inputs (length (widths_of is_input lines)) ≡ f.inputs =
    rising_stays 0 _ f.inputs (sym c.rises-then-rises.ensures ∙ c.if-rises-2.true) (part_below lines is_input _ f.inputs (length_widths lines is_input lines) c.requires.inputs) in
    let same : rising_frame (sizes_of lines) f ≡ f =
    ap (λ (ss : List Stated). record { states = ss; inputs = rising f.inputs (length (widths_of is_input lines)) }) states ∙ ap (λ (ss : List Stated). record { states = f.states; inputs = ss }) inputs in
    subst (λ (g : Frame). OnOk c.put_frame.result (c.put_frame.new.out ≡ c.args.out.now ++ frame_text c.args.number g)) (sym same) c.put_frame.ensures
