use Rattle.std.proofs.Common.{◌≡◌, ◌++◌, map}
use Rattle.std.specs.Slice.Iter.{iter_rest}
use Rattle.moxi_trace.specs.Texts.{front_text}
use Rattle.moxi_trace.proofs.print.fronts_of.Given as goal

abbrev pub invariant-loop-variable : goal.invariant-loop-variable
invariant-loop-variable l = l.fronts ++ map front_text (iter_rest l.variable-iterator) ≡ map front_text l.variables
