use Rattle.std.proofs.Common.{◌<◌, ◌-◌, length, subst, arith}
use Rattle.smv_instances.specs.Leads.{led}
use Rattle.smv_instances.proofs.DepthLemmas.{led_most}
use Rattle.smv_instances.proofs.aliases.leads_of.Goals as goal

pub loop-leads-smaller : goal.loop-leads-smaller
loop-leads-smaller c =
    let ks = c.in_ok-keys.keys.items in
    let was = c.loop-leads.leads in
    let now = c.all_retried.new.leads in
    let more : led was ks < led now ks = subst (λ l. led was l < led now l) c.as_slice-in-loop-leads.ensures.value (c.in_ok-all_retried.ensures.more c.if-branch-2.true) in
    let most = led_most now ks in
    let smaller : length ks - led now ks < length ks - led was ks = omega (arith, more, most) in
    smaller
