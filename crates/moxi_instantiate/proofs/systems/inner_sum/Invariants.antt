use Rattle.std.proofs.Common.{◌≡◌, ◌≤◌, ◌+◌, drop}
use Rattle.moxi_instantiate.specs.declared.counts.TheConstants.{MOST}
use Rattle.moxi_instantiate.specs.Amounts.{inner_sum}
use Rattle.moxi_instantiate.specs.Counting.{capped, known}
use Rattle.moxi_instantiate.proofs.systems.inner_sum.Given as goal

abbrev pub invariant-loop-subsystem : goal.invariant-loop-subsystem
invariant-loop-subsystem l = record {
  value : capped (l.total + inner_sum (known l.counts) (drop l.subsystem-index l.subsystems)) ≡ capped (inner_sum (known l.counts) l.subsystems);
  bound : l.total ≤ MOST;
}
