use Rattle.std.proofs.Common.{◌-◌, length}
use Rattle.name_maps.proofs.successors.Successors.cover.Given as goal

abbrev pub invariant-loop-self : goal.invariant-loop-self
invariant-loop-self l = Unit {0}

abbrev pub decreases-loop-self : goal.decreases-loop-self
decreases-loop-self l = length l.table - length l.self.next.items
