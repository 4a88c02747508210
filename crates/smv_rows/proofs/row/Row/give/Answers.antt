use Rattle.smv_rows.proofs.InOrder.{listed_given}
use Rattle.smv_rows.proofs.row.Row.give.Goals as goal

pub returns-in_ok-give_listed : goal.returns-in_ok-give_listed
returns-in_ok-give_listed c =
    listed_given c.args.flat.now.items.now c.args.state.now c.args.label.now c.as_slice.result.now c.as_slice-then-order.result.now c.give_listed.new.values.items
    c.as_slice.ensures c.as_slice-then-order.ensures (c.requires.listed c.if-order.true) c.in_ok-give_listed.ensures
