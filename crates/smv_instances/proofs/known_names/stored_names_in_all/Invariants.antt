use Rattle.std.proofs.Common.{◌≡◌, ◌<◌, ◌+◌, ◌-◌, ◌^◌, min, map, drop, sum_by}
use Rattle.smv_instances.specs.NameCounts.{stored_names_of}
use Rattle.smv_instances.specs.View.{instance_plain}
use Rattle.smv_instances.proofs.known_names.stored_names_in_all.Given as goal

abbrev pub invariant-loop-part : goal.invariant-loop-part
invariant-loop-part l = record {
  fits : l.count < 2 ^ 64;
  counts : min (l.count + sum_by (λ at. stored_names_of at.«module») (map instance_plain (drop l.part-index l.table))) (2 ^ 64 - 1) ≡ min (sum_by (λ at. stored_names_of at.«module») (map instance_plain l.table)) (2 ^ 64 - 1);
}
