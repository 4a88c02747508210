use Rattle.std.proofs.Common.{◌≡◌, ◌++◌}
use Rattle.std.specs.Slice.Iter.{iter_rest}
use Rattle.moxi_flat.specs.FlatSystem.{named_inside}
use Rattle.moxi_instantiate.proofs.variables.add_named.Given as goal

abbrev pub invariant-loop-variable : goal.invariant-loop-variable
invariant-loop-variable l = l.all ++ named_inside l.path (iter_rest l.variable-iterator) ≡ l.fn.all ++ named_inside l.path l.variables
