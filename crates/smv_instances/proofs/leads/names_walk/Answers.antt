use Rattle.std.proofs.Common.{rules, map, arith}
use Rattle.std.proofs.lemmas.Grind.{common_steps}
use Rattle.smv_instances.specs.View.{instance_plain}
use Rattle.smv_instances.proofs.leads.names_walk.Goals as goal

pub returns-in_default-target : goal.returns-in_default-target
returns-in_default-target c =
    let t = map instance_plain c.args.parts.now in
    let found = c.last-target.ensures.found t in
    (λ n. let own = c.in-Some-lead_of.ensures.0 n in let before = c.loop-k.invariant.leads n in grind (arith, common_steps, found, own, before), search rules, c.last-target.ensures.declared t c.in-Some-lead_of.ensures.2)
