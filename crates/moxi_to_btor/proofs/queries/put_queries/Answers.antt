use Rattle.std.proofs.Common.{◌∙◌, ◌+◌, drop, subst, sym, ap}
use Rattle.moxi_lines.specs.Lines.{with_queries}
use Rattle.moxi_to_btor.specs.Queries.{CanPutQueries}
use Rattle.moxi_to_btor.proofs.GoalSteps.{first_query, rest_queries}
use Rattle.moxi_to_btor.proofs.VariableSteps.{next_item}
use Rattle.moxi_to_btor.proofs.queries.put_queries.Goals as goal

pub put_query-requires : goal.put_query-requires
put_query-requires c =
    let f = c.args.system.now in
    let inputs = c.args.inputs.now in
    let l = c.loop-query in
    let qs = c.as_slice-query-items.result.now in
    let x = c.query-item.result in
    let e = next_item qs l.query-index x c.loop-query-test.true c.query-item.is in
    first_query f inputs l.builder x (drop (l.query-index + 1) qs) (subst (CanPutQueries f inputs l.builder) e l.invariant.can)

pub loop-query-preserved : goal.loop-query-preserved
loop-query-preserved c =
    let f = c.args.system.now in
    let inputs = c.args.inputs.now in
    let l = c.loop-query in
    let qs = c.as_slice-query-items.result.now in
    let x = c.query-item.result in
    let rest = drop (l.query-index + 1) qs in
    let e = next_item qs l.query-index x c.loop-query-test.true c.query-item.is in
    record {
      told = ap (λ ls. with_queries f inputs ls rest) c.in_ok-put_query.ensures ∙ sym (ap (with_queries f inputs l.builder) e) ∙ l.invariant.told;
      can = rest_queries f inputs l.builder c.put_query.new.builder x rest (subst (CanPutQueries f inputs l.builder) e l.invariant.can) c.in_ok-put_query.ensures;
    }
