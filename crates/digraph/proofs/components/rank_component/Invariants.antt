use Rattle.std.proofs.Common.{◌≡◌, length}
use Rattle.digraph.proofs.components.rank_component.Given as goal

abbrev pub invariant-loop-i : goal.invariant-loop-i
invariant-loop-i l = length l.ranks.items ≡ length l.fn.ranks.items
