use Rattle.std.proofs.Common.{◌≡◌, ◌++◌, map}
use Rattle.std.specs.Slice.Iter.{iter_rest}
use Rattle.smv_names.specs.View.{declared_plain}
use Rattle.smv_names.proofs.declared.add_parameters.Given as goal
use Rattle.smv_meaning.specs.Phases.{parameter_declared}

abbrev pub invariant-loop-parameter : goal.invariant-loop-parameter
invariant-loop-parameter l = map declared_plain l.list.items ++ map parameter_declared (iter_rest l.parameter-iterator) ≡ map declared_plain l.fn.list.items ++ map parameter_declared l.parameters
