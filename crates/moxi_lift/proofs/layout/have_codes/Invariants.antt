use Rattle.std.specs.Slice.Iter.{iter_rest}
use Rattle.moxi_lines.specs.TermLaws.{HaveCodes}
use Rattle.moxi_lift.proofs.layout.have_codes.Given as goal

abbrev pub invariant-loop-enumeration : goal.invariant-loop-enumeration
invariant-loop-enumeration l = HaveCodes (iter_rest l.enumeration-iterator) → HaveCodes l.scope.enumerations
