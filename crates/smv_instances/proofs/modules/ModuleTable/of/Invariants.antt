use Rattle.std.proofs.Common.{◌≤◌, drop, length}
use Rattle.smv_instances.specs.NameMap.{FindsPlaces}
use Rattle.smv_instances.proofs.modules.ModuleTable.of.Given as goal

abbrev pub invariant-loop-k : goal.invariant-loop-k
invariant-loop-k l = record { within : l.k ≤ length l.modules; finds : FindsPlaces l.modules (drop l.k l.modules) l.places }

abbrev pub decreases-loop-k : goal.decreases-loop-k
decreases-loop-k l = l.k
