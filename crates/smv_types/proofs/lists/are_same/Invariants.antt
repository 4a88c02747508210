use Rattle.std.proofs.Common.{◌≡◌, drop, map}
use Rattle.std.specs.List.{list_all}
use Rattle.smv_meaning.specs.Types.{type_same, are_same}
use Rattle.smv_intervals.specs.View.{seen}
use Rattle.smv_types.proofs.lists.are_same.Given as goal

abbrev pub invariant-loop-t : goal.invariant-loop-t
invariant-loop-t l = list_all (type_same (seen l.first)) (map seen (drop l.t-index l.others)) ≡ are_same (map seen l.types)
