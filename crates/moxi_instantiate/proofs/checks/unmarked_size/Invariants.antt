use Rattle.std.proofs.Common.{◌≡◌, ◌≤◌, ◌+◌, ℕ, List, drop}
use Rattle.moxi_instantiate.specs.declared.counts.TheConstants.{MOST}
use Rattle.moxi_instantiate.specs.CheckCounts.{AreMarked, unnamed_sum}
use Rattle.moxi_instantiate.specs.Counting.{capped}
use Rattle.moxi_instantiate.proofs.checks.unmarked_size.Given as goal

abbrev pub invariant-loop-k : goal.invariant-loop-k
invariant-loop-k l = record {
  value : (named : List ℕ) → AreMarked l.marks named → capped (l.total + unnamed_sum named l.k (drop l.k l.counts)) ≡ capped (unnamed_sum named 0 l.counts);
  bound : l.total ≤ MOST;
}
