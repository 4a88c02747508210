use Rattle.std.proofs.Common.{◌≡◌, map, drop}
use Rattle.std.specs.List.{list_all}
use Rattle.smv_meaning.specs.Types.{is_truth_type}
use Rattle.smv_intervals.specs.View.{seen}
use Rattle.smv_types.proofs.lists.are_truths.Given as goal

abbrev pub invariant-loop-t : goal.invariant-loop-t
invariant-loop-t l = list_all is_truth_type (map seen (drop l.t-index l.types)) ≡ list_all is_truth_type (map seen l.types)
