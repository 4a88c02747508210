use Rattle.std.proofs.Common.{◌≡◌, ◌++◌}
use Rattle.std.specs.Slice.Iter.{iter_rest}
use Rattle.moxi_term_print.specs.Shown.{lines_text}
use Rattle.moxi_script_print.specs.Printing.{shown_enumerations}
use Rattle.moxi_script_print.proofs.print.put_enumerations.Given as goal

abbrev pub invariant-loop-enumeration : goal.invariant-loop-enumeration
invariant-loop-enumeration l = l.out ++ lines_text (shown_enumerations (iter_rest l.enumeration-iterator)) ≡ l.fn.out ++ lines_text (shown_enumerations l.scope.enumerations)
