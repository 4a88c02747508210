use Rattle.std.proofs.Common.{◌≡◌, drop}
use Rattle.moxi_lines.specs.Lines.{with_reachables}
use Rattle.moxi_to_btor.specs.Queries.{CanPutReachables, reaching}
use Rattle.moxi_to_btor.proofs.queries.put_reachables.Given as goal

abbrev pub invariant-loop-number : goal.invariant-loop-number
invariant-loop-number l = record {
  told : with_reachables l.system l.inputs l.name (reaching l.builder l.formulas.items l.seen.items) (drop l.number-index l.numbers)
      ≡ with_reachables l.system l.inputs l.name (reaching l.fn.builder l.fn.formulas.items l.fn.seen.items) l.numbers;
  can : CanPutReachables l.system l.inputs l.name (reaching l.builder l.formulas.items l.seen.items) (drop l.number-index l.numbers);
}
