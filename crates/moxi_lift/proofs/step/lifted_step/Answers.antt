use Rattle.std.proofs.Common.{◌<◌, None, length, sym, ◌∙◌, arith}
use Rattle.moxi_lift.proofs.Steps.{read_there, sort_known, step_more}
use Rattle.moxi_lift.proofs.step.lifted_step.Goals as goal

pub value_of-requires : goal.value_of-requires
value_of-requires c =
    let within : c.loop-v.v < length c.args.variables.now = omega (arith, c.loop-v-test.true, c.len-v-end.ensures) in
    sort_known c.args.scope.now.enumerations c.args.variables.now c.loop-v.v c.at.result.now c.requires.sorts within (sym c.at.ensures)

pub loop-v-preserved : goal.loop-v-preserved
loop-v-preserved c =
    let within : c.loop-v.v < length c.args.variables.now = omega (arith, c.loop-v-test.true, c.len-v-end.ensures) in
    let long = c.in_ok-table.ensures.long in
    let inside : c.loop-v.v < length c.in_ok-table.table.items = omega (arith, within, long, c.len.ensures) in
    let word = read_there c.in_ok-table.table.items c.loop-v.v c.index.result.now None inside c.index.ensures ∙ c.in_ok-table.ensures.by_index c.loop-v.v in
    step_more c.args.scope.now.enumerations c.args.variables.now c.args.stated.now c.loop-v.v c.at.result.now c.index.result.now c.value_of.result c.loop-v.env c.push.new.self
    within (sym c.at.ensures) word c.value_of.ensures c.loop-v.invariant c.in_ok-push.ensures.ok
