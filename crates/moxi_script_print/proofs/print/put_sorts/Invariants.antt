use Rattle.std.proofs.Common.{◌≡◌, ◌++◌}
use Rattle.std.specs.Slice.Iter.{iter_rest}
use Rattle.moxi_term_print.specs.Shown.{lines_text}
use Rattle.moxi_script_print.specs.Printing.{shown_sorts}
use Rattle.moxi_script_print.proofs.print.put_sorts.Given as goal

abbrev pub invariant-loop-sort : goal.invariant-loop-sort
invariant-loop-sort l = l.out ++ lines_text (shown_sorts l.scope (iter_rest l.sort-iterator)) ≡ l.fn.out ++ lines_text (shown_sorts l.scope l.scope.sorts)
