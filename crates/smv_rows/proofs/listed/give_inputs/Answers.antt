use Rattle.std.proofs.Common.{sym, ap, ◌∙◌, Some, ◌≤◌, length, arith}
use Rattle.std.proofs.lemmas.Option.{slice_get-get_or}
use Rattle.smv_rows.proofs.Inputs.{inputs_on, inputs_end}
use Rattle.smv_rows.proofs.listed.give_inputs.Goals as goal

pub loop-k-preserved : goal.loop-k-preserved
loop-k-preserved c =
    let items = c.args.items.now in
    let k = c.loop-k.k in
    let m = c.index-items-k.result in
    record {
      size = c.give_input.ensures.size ∙ c.loop-k.invariant.size;
      inputs = inputs_on items c.args.other.now c.args.values.now.items c.loop-k.values.items c.give_input.new.values.items k m
          (slice_get-get_or items k m c.loop-k-test.true ∙ ap Some (sym c.index-items-k.is)) c.loop-k.invariant.inputs c.give_input.ensures.value;
    }

pub returns-clause-inputs : goal.returns-clause-inputs
returns-clause-inputs c =
    let most : length c.args.items.now ≤ c.loop-k.k = omega (arith, c.loop-k-test.false) in
    inputs_end c.args.items.now c.args.other.now c.args.values.now.items c.loop-k.values.items c.loop-k.k most c.loop-k.invariant.inputs
