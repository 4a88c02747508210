use Rattle.std.proofs.Common.{◌≡◌, true, take, map}
use Rattle.smv_instances.specs.Leads.{Right, AreCounted}
use Rattle.smv_instances.specs.View.{instance_plain}
use Rattle.smv_instances.proofs.LeadLemmas.{NoneOpen}
use Rattle.smv_instances.proofs.aliases.all_searched.Given as goal

abbrev pub invariant-loop-key : goal.invariant-loop-key
invariant-loop-key l = record {
  right : Right (map instance_plain l.parts) l.leads;
  counted : AreCounted l.leads l.keys;
  closed : l.closed ≡ true → NoneOpen (map instance_plain l.parts) l.leads (take l.key-index l.keys);
}
