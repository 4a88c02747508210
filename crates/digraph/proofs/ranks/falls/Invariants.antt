use Rattle.std.proofs.Common.{◌≡◌, ℕ, ◌<◌, ◌≤◌, true}
use Rattle.digraph.specs.Graph.{is_in, next_of}
use Rattle.digraph.specs.Ranks.{rank_of}
use Rattle.digraph.proofs.ranks.falls.Given as goal

abbrev pub invariant-loop-k : goal.invariant-loop-k
invariant-loop-k l = (j m : ℕ) → j < l.k → is_in (next_of l.graph j) m ≡ true → rank_of l.ranks m ≤ rank_of l.ranks j
