use Rattle.std.proofs.Common.{◌≡◌, drop, []}
use Rattle.moxi_lines.specs.Lines.{with_variables}
use Rattle.moxi_to_btor.specs.Putting.{CanPutVariables}
use Rattle.moxi_to_btor.proofs.variables.put_variables.Given as goal

abbrev pub invariant-loop-variable : goal.invariant-loop-variable
invariant-loop-variable l = record {
  told : with_variables l.enumerations (l.builder, l.inputs.items) (drop l.variable-index l.variable-items) ≡ with_variables l.enumerations (l.fn.builder, []) l.variables;
  can : CanPutVariables l.enumerations (l.builder, l.inputs.items) (drop l.variable-index l.variable-items);
}
