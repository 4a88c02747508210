use Rattle.std.proofs.Common.{◌≡◌, drop}
use Rattle.moxi_lines.specs.Lines.{with_assumptions}
use Rattle.moxi_to_btor.specs.Queries.{CanPutAssumptions}
use Rattle.moxi_to_btor.proofs.conditions.put_assumptions.Given as goal

abbrev pub invariant-loop-number : goal.invariant-loop-number
invariant-loop-number l = record {
  told : with_assumptions l.system l.inputs (l.builder, l.parts.items) (drop l.number-index l.numbers) ≡ with_assumptions l.system l.inputs (l.fn.builder, l.fn.parts.items) l.numbers;
  can : CanPutAssumptions l.system l.inputs (l.builder, l.parts.items) (drop l.number-index l.numbers);
}
