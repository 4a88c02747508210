use Rattle.std.proofs.Common.{◌≡◌, ◌++◌, map}
use Rattle.std.specs.Slice.Iter.{iter_rest}
use Rattle.moxi_term_print.specs.Terms.{variable_names}
use Rattle.moxi_term_print.proofs.terms.push_variable_names.Given as goal
use Rattle.text_core.specs.Bytes.{bytes_behind}

abbrev pub invariant-loop-variable : goal.invariant-loop-variable
invariant-loop-variable l = map bytes_behind l.names.items ++ variable_names (iter_rest l.variable-iterator) ≡ map bytes_behind l.fn.names.items ++ variable_names l.fn.variables
