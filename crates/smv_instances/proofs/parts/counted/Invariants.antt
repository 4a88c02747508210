use Rattle.std.proofs.Common.{◌≡◌, ◌<◌, ◌+◌, ◌^◌, drop, map}
use Rattle.std.specs.Prelude.{min}
use Rattle.smv_meaning.specs.Names.{steps_of}
use Rattle.smv_instances.specs.View.{instance_plain}
use Rattle.smv_instances.proofs.parts.counted.Given as goal

abbrev pub invariant-loop-part : goal.invariant-loop-part
invariant-loop-part l = record {
  fits : l.count < 2 ^ 64;
  count : min (l.count + steps_of (map instance_plain (drop l.part-index l.table))) (2 ^ 64) ≡ min (steps_of (map instance_plain l.table) + 1) (2 ^ 64);
}
