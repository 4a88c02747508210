use Rattle.smv_rows.proofs.Relabelled.{inputs_joined}
use Rattle.smv_rows.proofs.row.Row.give_inputs.Goals as goal

pub returns : goal.returns
returns c = λ state before label after given also.
    inputs_joined c.args.flat.now state before label after c.args.self.now.values.items c.args.other.now.values.items c.as_slice.result.now c.give_inputs.new.values.items c.as_slice.ensures.value given also c.give_inputs.ensures.size c.give_inputs.ensures.inputs
