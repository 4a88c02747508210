use Rattle.smv_rows.proofs.Relabelled.{row_kept, inputs_now}
use Rattle.smv_rows.proofs.row.Row.give_label.Goals as goal

pub returns-else-order-clause-row : goal.returns-else-order-clause-row
returns-else-order-clause-row c = λ state before label after row also. row_kept c.args.flat.now c.args.order.now c.requires.order c.if-order.false state before label _ row

pub evaluate-requires-clause-safe : goal.evaluate-requires-clause-safe
evaluate-requires-clause-safe c =
    let s = c.requires.safe in
    (s.state, s.label, inputs_now c.args.flat.now s.state s.before s.label s.after c.args.self.now.values.items c.args.other.now.values.items c.as_slice.result.now c.give_inputs.new.values.items c.as_slice.ensures.value s.size s.row s.given c.give_inputs.ensures.size c.give_inputs.ensures.inputs, s.safe)

pub returns-then-order-clause-row : goal.returns-then-order-clause-row
returns-then-order-clause-row c = λ state before label after row also.
    c.evaluate.ensures.values state label
    (inputs_now c.args.flat.now state before label after c.args.self.now.values.items c.args.other.now.values.items c.as_slice.result.now c.give_inputs.new.values.items c.as_slice.ensures.value c.requires.safe.size row also c.give_inputs.ensures.size c.give_inputs.ensures.inputs)
