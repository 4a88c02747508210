use Rattle.std.proofs.Common.{◌≡◌, ◌++◌, ◌∷◌, if◌then◌else◌, []}
use Rattle.std.specs.Slice.Iter.{iter_rest}
use Rattle.moxi_term_print.specs.Shown.{parts_text}
use Rattle.moxi_term_print.specs.Terms.{shown_variables}
use Rattle.moxi_term_print.proofs.sorts.put_each_variable.Given as goal

abbrev pub invariant-loop-variable : goal.invariant-loop-variable
invariant-loop-variable l = l.out ++ parts_text (if l.first then [] else 32 ∷ []) (shown_variables l.scope (iter_rest l.variable-iterator)) ≡ l.fn.out ++ parts_text [] (shown_variables l.scope l.fn.variables)
