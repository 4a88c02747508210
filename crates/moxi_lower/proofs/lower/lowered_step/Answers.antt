use Rattle.std.proofs.Common.{◌<◌, length, arith}
use Rattle.moxi_lower.proofs.Steps.{step_inside, step_known, step_more}
use Rattle.moxi_lower.proofs.lower.lowered_step.Goals as goal

pub at-requires : goal.at-requires
at-requires c =
    let within : c.loop-v.v < length c.args.variables.now = omega (arith, c.loop-v-test.true, c.len-v-end.ensures) in
    step_inside c.args.scope.now.enumerations c.args.variables.now c.args.step.now c.loop-v.v c.requires.fit within

pub code_of-value-requires : goal.code_of-value-requires
code_of-value-requires c =
    let within : c.loop-v.v < length c.args.variables.now = omega (arith, c.loop-v-test.true, c.len-v-end.ensures) in
    step_known c.args.scope.now.enumerations c.args.variables.now c.args.step.now c.loop-v.v c.at.result.now c.requires.fit within c.at.ensures

pub loop-v-preserved : goal.loop-v-preserved
loop-v-preserved c =
    let within : c.loop-v.v < length c.args.variables.now = omega (arith, c.loop-v-test.true, c.len-v-end.ensures) in
    let inside = step_inside c.args.scope.now.enumerations c.args.variables.now c.args.step.now c.loop-v.v c.requires.fit within in
    step_more c.args.scope.now.enumerations c.args.step.now c.loop-v.v c.at.result.now c.code_of-value.result c.loop-v.inputs c.push.new.self inside c.at.ensures c.code_of-value.ensures c.loop-v.invariant c.in_ok-push.ensures.ok
