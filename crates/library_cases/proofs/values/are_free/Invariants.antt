use Rattle.std.proofs.Common.{◌≡◌, drop, map}
use Rattle.smv_instances.specs.View.{instance_plain}
use Rattle.library_cases.specs.Free.{are_free}
use Rattle.library_cases.proofs.values.are_free.Given as goal

abbrev pub invariant-loop-at : goal.invariant-loop-at
invariant-loop-at l = are_free (map instance_plain (drop l.at-index l.parts)) ≡ are_free (map instance_plain l.parts)
