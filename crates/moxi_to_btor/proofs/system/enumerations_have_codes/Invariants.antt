use Rattle.std.proofs.Common.{drop}
use Rattle.moxi_lines.specs.TermLaws.{HaveCodes}
use Rattle.moxi_to_btor.proofs.system.enumerations_have_codes.Given as goal

abbrev pub invariant-loop-enumeration : goal.invariant-loop-enumeration
invariant-loop-enumeration l = HaveCodes (drop l.enumeration-index l.enumeration-items) → HaveCodes l.enumeration-items
