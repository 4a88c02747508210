use Rattle.std.proofs.Common.{◌≡◌, map, length}
use Rattle.moxi_scripts.specs.Script.{plain_system}
use Rattle.moxi_instantiate.specs.Counting.{known}
use Rattle.moxi_instantiate.proofs.Filling.{AreFilled}
use Rattle.moxi_instantiate.proofs.systems.amounts.Given as goal

abbrev pub invariant-loop-number : goal.invariant-loop-number
invariant-loop-number l = record {
  long : length l.counts.items ≡ length l.systems;
  filled : AreFilled l.measure (known l.calls) (map plain_system l.systems) l.order l.number-index l.counts.items;
}
