use Rattle.std.proofs.Common.{◌∷◌, ◌++◌, [], sym, ap, ◌∙◌, take, add-one}
use Rattle.btor_tree.specs.Fits.{is_input}
use Rattle.btor_tree.proofs.Paths.{width_is}
use Rattle.btor_witness.proofs.Widths.{widths_in, width_more, width_same, input_has_word}
use Rattle.btor_witness.proofs.reader.input_widths.Goals as goal
use Rattle.btor_witness.proofs.reader.input_widths.Goals.{then-is_input+in_ok-push, else-is_input}

pub width_of-requires : goal.width_of-requires
width_of-requires c =
    (width_is c.args.nodes.now c.loop-i.i c.at.result.now c.len-i-end.ensures.well_formed c.at.ensures (input_has_word c.at.result.now.op (sym c.if-is_input.ensures))).1

pub loop-i-preserved : goal.loop-i-preserved
loop-i-preserved c =
    let lines = c.args.nodes.now in
    let i = c.loop-i.i in
    let step = ap (λ n. widths_in lines is_input (take n lines)) (sym (add-one i)) in
    elim c.if-is_input.branch [
      | then-is_input+in_ok-push w ↦
          w.widths-is ∙ w.in_ok-push.ensures.ok ∙ ap (λ x. x ++ w.width_of.result ∷ []) c.loop-i.invariant ∙ ap (λ n. widths_in lines is_input (take i lines) ++ n ∷ []) w.width_of.ensures
          ∙ sym (width_more lines is_input i c.at.result.now c.at.ensures (sym c.is_input.ensures ∙ w.if-is_input.true)) ∙ step
      | else-is_input w ↦ w.widths-is ∙ c.loop-i.invariant ∙ sym (width_same lines is_input i c.at.result.now c.at.ensures (sym c.is_input.ensures ∙ w.if-is_input.false)) ∙ step
    ]
