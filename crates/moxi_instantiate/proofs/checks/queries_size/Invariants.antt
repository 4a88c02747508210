use Rattle.std.proofs.Common.{◌≡◌, ◌≤◌, ◌+◌, drop}
use Rattle.moxi_instantiate.specs.declared.counts.TheConstants.{MOST}
use Rattle.moxi_instantiate.specs.CheckCounts.{queries_sum}
use Rattle.moxi_instantiate.specs.Counting.{capped}
use Rattle.moxi_instantiate.proofs.checks.queries_size.Given as goal

abbrev pub invariant-loop-query : goal.invariant-loop-query
invariant-loop-query l = record {
  value : capped (l.total + queries_sum l.assumptions l.currents l.reachables (drop l.query-index l.queries)) ≡ capped (queries_sum l.assumptions l.currents l.reachables l.queries);
  bound : l.total ≤ MOST;
}
