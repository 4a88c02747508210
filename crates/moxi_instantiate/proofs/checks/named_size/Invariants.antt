use Rattle.std.proofs.Common.{◌≡◌, ◌≤◌, ◌+◌, drop}
use Rattle.moxi_instantiate.specs.declared.counts.TheConstants.{MOST}
use Rattle.moxi_instantiate.specs.CheckCounts.{named_sum}
use Rattle.moxi_instantiate.specs.Counting.{capped}
use Rattle.moxi_instantiate.proofs.checks.named_size.Given as goal

abbrev pub invariant-loop-number : goal.invariant-loop-number
invariant-loop-number l = record {
  value : capped (l.total + named_sum l.counts (drop l.number-index l.numbers)) ≡ capped (named_sum l.counts l.numbers);
  bound : l.total ≤ MOST;
}
