use Rattle.std.proofs.Common.{◌≡◌, ◌≤◌, ℕ, true, drop, length}
use Rattle.digraph.specs.Graph.{are_distinct, is_in}
use Rattle.moxi_declarations.proofs.queries.are_distinct.Given as goal

abbrev pub invariant-loop-k : goal.invariant-loop-k
invariant-loop-k l = record {
  within : l.k ≤ length l.numbers;
  among : (x : ℕ) → is_in l.seen.keys x ≡ is_in (drop l.k l.numbers) x;
  distinct : are_distinct (drop l.k l.numbers) ≡ true;
}

abbrev pub decreases-loop-k : goal.decreases-loop-k
decreases-loop-k l = l.k
