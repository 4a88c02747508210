use Rattle.std.proofs.Common.{map}
use Rattle.smv_instances.specs.Leads.{Right, AreCounted, StaysClosed}
use Rattle.smv_instances.specs.View.{instance_plain}
use Rattle.smv_instances.proofs.aliases.searched.Given as goal

abbrev pub invariant-loop : goal.invariant-loop
invariant-loop l = record {
  right : Right (map instance_plain l.parts) l.leads;
  counted : AreCounted l.leads l.keys;
  stays : StaysClosed (map instance_plain l.parts) l.fn.leads l.leads;
}
