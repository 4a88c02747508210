use Rattle.std.proofs.Common.{◌≡◌, ◌++◌, true}
use Rattle.std.specs.Slice.Iter.{iter_rest}
use Rattle.name_maps.specs.Names.{are_fresh}
use Rattle.moxi_trace.specs.Traces.{names_of}
use Rattle.moxi_trace.proofs.table.variable_names.Given as goal

abbrev pub invariant-loop-variable : goal.invariant-loop-variable
invariant-loop-variable l = record {
  names : l.names ++ names_of (iter_rest l.variable-iterator) ≡ names_of l.fn.variables;
  fresh : are_fresh l.names (names_of (iter_rest l.variable-iterator)) ≡ true;
}
