use Rattle.std.proofs.Common.{◌≡◌, ◌≤◌, max, drop}
use Rattle.moxi_instantiate.specs.declared.counts.TheConstants.{MOST}
use Rattle.moxi_instantiate.specs.Amounts.{inner_greatest}
use Rattle.moxi_instantiate.specs.Counting.{capped, known}
use Rattle.moxi_instantiate.proofs.systems.inner_greatest.Given as goal

abbrev pub invariant-loop-subsystem : goal.invariant-loop-subsystem
invariant-loop-subsystem l = record {
  value : max l.most (capped (inner_greatest (known l.counts) (drop l.subsystem-index l.subsystems))) ≡ capped (inner_greatest (known l.counts) l.subsystems);
  bound : l.most ≤ MOST;
}
