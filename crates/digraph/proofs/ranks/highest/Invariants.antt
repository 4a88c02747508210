use Rattle.std.proofs.Common.{◌≡◌, ℕ, ◌≤◌, true, take}
use Rattle.digraph.specs.Graph.{is_in}
use Rattle.digraph.specs.Ranks.{rank_of}
use Rattle.digraph.proofs.ranks.highest.Given as goal

abbrev pub invariant-loop-i : goal.invariant-loop-i
invariant-loop-i l = (m : ℕ) → is_in (take l.i l.row) m ≡ true → rank_of l.ranks m ≤ l.rank
