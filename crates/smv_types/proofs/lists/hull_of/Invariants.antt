use Rattle.std.proofs.Common.{◌≡◌, drop, map}
use Rattle.smv_meaning.specs.Types.{hull_with, hull_of}
use Rattle.smv_intervals.specs.View.{seen}
use Rattle.smv_types.proofs.lists.hull_of.Given as goal

abbrev pub invariant-loop-t : goal.invariant-loop-t
invariant-loop-t l = hull_with (seen l.whole) (map seen (drop l.t-index l.others)) ≡ hull_of (map seen l.types)
