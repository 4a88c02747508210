use Rattle.smv_meaning.specs.Values.{given}
use Rattle.smv_rows.proofs.RowLaw.{gives_is}
use Rattle.smv_rows.proofs.row.Row.give_named.Goals as goal

pub returns : goal.returns
returns c =
    gives_is c.args.order.now (given c.args.state.now) (given c.args.label.now) c.give_names.new.values.items c.give_names-2.new.values.items c.give_variables.new.values.items c.as_slice.result.now
    c.in_ok-give_names.ensures c.in_ok-give_names-2.ensures c.as_slice-2.result.now c.as_slice-3.result.now c.as_slice-2.ensures.value c.as_slice-3.ensures.value c.as_slice.ensures.value c.in_ok-give_variables.ensures
