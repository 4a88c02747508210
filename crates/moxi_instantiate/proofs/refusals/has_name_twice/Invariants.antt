use Rattle.std.proofs.Common.{◌≡◌, []}
use Rattle.std.specs.Slice.Iter.{iter_rest}
use Rattle.name_maps.specs.Names.{are_fresh}
use Rattle.moxi_term_print.specs.Terms.{variable_names}
use Rattle.moxi_instantiate.proofs.refusals.has_name_twice.Given as goal

abbrev pub invariant-loop-variable : goal.invariant-loop-variable
invariant-loop-variable l = are_fresh l.names (variable_names (iter_rest l.variable-iterator)) ≡ are_fresh [] (variable_names l.variables)
