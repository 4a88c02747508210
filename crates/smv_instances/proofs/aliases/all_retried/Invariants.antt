use Rattle.std.proofs.Common.{◌≡◌, ◌<◌, ◌≤◌, true, false, take, map}
use Rattle.smv_instances.specs.Leads.{Right, AllWait, AreCounted, led}
use Rattle.smv_instances.specs.View.{instance_plain}
use Rattle.smv_instances.proofs.aliases.all_retried.Given as goal

abbrev pub invariant-loop-key : goal.invariant-loop-key
invariant-loop-key l = record {
  right : Right (map instance_plain l.parts) l.leads;
  counted : AreCounted l.leads l.keys;
  grown : led l.fn.leads l.keys ≤ led l.leads l.keys;
  more : l.changed ≡ true → led l.fn.leads l.keys < led l.leads l.keys;
  waits : l.changed ≡ false → AllWait (map instance_plain l.parts) l.leads (take l.key-index l.keys);
}
