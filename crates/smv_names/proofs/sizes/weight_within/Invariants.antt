use Rattle.std.proofs.Common.{◌≡◌, ◌≤◌, ◌+◌, drop, map, sum_by}
use Rattle.smv_instances.specs.View.{instance_plain}
use Rattle.smv_names.proofs.sizes.weight_within.Given as goal

abbrev pub invariant-loop-part : goal.invariant-loop-part
invariant-loop-part l = record {
  light : l.weight ≤ 200000;
  rest : l.weight + sum_by (λ at. at.module.tokens) (map instance_plain (drop l.part-index l.parts)) ≡ sum_by (λ at. at.module.tokens) (map instance_plain l.parts);
}
