use Rattle.std.proofs.Common.{◌≡◌, ℕ, ◌<◌, false}
use Rattle.digraph.specs.Graph.{leads}
use Rattle.digraph.proofs.returns.first_return.Given as goal

abbrev pub invariant-loop-k : goal.invariant-loop-k
invariant-loop-k l = (n j : ℕ) → j < l.k → leads l.graph n j j ≡ false
