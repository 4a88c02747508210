use Rattle.std.proofs.Common.{◌-◌, map, length}
use Rattle.smv_instances.specs.Leads.{Right, AreCounted, led}
use Rattle.smv_instances.specs.View.{instance_plain}
use Rattle.smv_instances.proofs.aliases.leads_of.Given as goal

abbrev pub invariant-loop-leads : goal.invariant-loop-leads
invariant-loop-leads l = record { right : Right (map instance_plain l.parts) l.leads; counted : AreCounted l.leads l.keys.items }

abbrev pub decreases-loop-leads : goal.decreases-loop-leads
decreases-loop-leads l = length l.keys.items - led l.leads l.keys.items
