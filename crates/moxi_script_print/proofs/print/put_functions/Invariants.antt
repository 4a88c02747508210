use Rattle.std.proofs.Common.{◌≡◌, ◌++◌, map}
use Rattle.std.specs.Slice.Iter.{iter_rest}
use Rattle.moxi_term_print.specs.Shown.{lines_text}
use Rattle.moxi_terms.specs.View.{plain_function}
use Rattle.moxi_script_print.specs.Printing.{shown_functions}
use Rattle.moxi_script_print.proofs.print.put_functions.Given as goal

abbrev pub invariant-loop-function : goal.invariant-loop-function
invariant-loop-function l = l.out ++ lines_text (shown_functions l.scope (map plain_function (iter_rest l.function-iterator))) ≡ l.fn.out ++ lines_text (shown_functions l.scope l.scope.functions)
