use Rattle.std.proofs.Common.{◌≡◌, drop}
use Rattle.moxi_lines.specs.Lines.{with_currents}
use Rattle.moxi_to_btor.specs.Queries.{CanPutCurrents}
use Rattle.moxi_to_btor.proofs.conditions.put_currents.Given as goal

abbrev pub invariant-loop-number : goal.invariant-loop-number
invariant-loop-number l = record {
  told : with_currents l.system l.inputs (l.builder, l.parts.items) (drop l.number-index l.numbers) ≡ with_currents l.system l.inputs (l.fn.builder, l.fn.parts.items) l.numbers;
  can : CanPutCurrents l.system l.inputs (l.builder, l.parts.items) (drop l.number-index l.numbers);
}
