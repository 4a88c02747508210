use Rattle.std.proofs.Common.{◌≡◌, drop, map}
use Rattle.std.specs.List.{list_all}
use Rattle.smv_meaning.specs.Types.{member_type, type_same, are_same}
use Rattle.smv_intervals.specs.View.{seen}
use Rattle.smv_model_types.proofs.domains.are_same.Given as goal

abbrev pub invariant-loop-member : goal.invariant-loop-member
invariant-loop-member l = list_all (type_same (seen l.first)) (map member_type (drop l.member-index l.others)) ≡ are_same (map member_type l.members)
