use Rattle.std.proofs.Common.{◌≡◌, drop}
use Rattle.moxi_lines.specs.Lines.{with_queries}
use Rattle.moxi_to_btor.specs.Queries.{CanPutQueries}
use Rattle.moxi_to_btor.proofs.queries.put_queries.Given as goal

abbrev pub invariant-loop-query : goal.invariant-loop-query
invariant-loop-query l = record {
  told : with_queries l.system l.inputs l.builder (drop l.query-index l.query-items) ≡ with_queries l.system l.inputs l.fn.builder l.queries;
  can : CanPutQueries l.system l.inputs l.builder (drop l.query-index l.query-items);
}
