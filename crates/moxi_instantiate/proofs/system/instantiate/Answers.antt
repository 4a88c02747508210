use Rattle.moxi_instantiate.proofs.Accepted.{instance_of}
use Rattle.moxi_instantiate.proofs.system.instantiate.Goals as goal

pub invariant_of-result : goal.invariant_of-result
invariant_of-result c =
    let s = c.args.script.now in
    instance_of s.logic s.scope s.systems s.check c.in_ok-variables.variables c.in_ok-parts.parts c.script_is_valid.ensures c.in_ok-variables.ensures.variables c.in_ok-parts.ensures
    c.in_ok-variables.ensures.accepted
