use Rattle.std.proofs.Common.{◌≡◌, drop, map}
use Rattle.smv_meaning.specs.Types.{member_type, hull_with, hull_of}
use Rattle.smv_intervals.specs.View.{seen}
use Rattle.smv_model_types.proofs.domains.hull_of.Given as goal

abbrev pub invariant-loop-member : goal.invariant-loop-member
invariant-loop-member l = hull_with (seen l.whole) (map member_type (drop l.member-index l.others)) ≡ hull_of (map member_type l.members)
