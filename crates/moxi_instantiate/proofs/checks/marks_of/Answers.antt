use Rattle.std.proofs.Common.{◌++◌, ◌∙◌, take, subst}
use Rattle.moxi_instantiate.specs.CheckCounts.{AreMarked, all_numbers}
use Rattle.moxi_instantiate.proofs.Marking.{marked_query}
use Rattle.moxi_instantiate.proofs.checks.marks_of.Goals as goal

pub loop-query-preserved : goal.loop-query-preserved
loop-query-preserved c =
    let before = all_numbers c.args.kind (take c.loop-query.query-index c.args.queries.now) in
    record {
      long = c.mark_all.ensures.long ∙ c.loop-query.invariant.long;
      marked =
          marked_query c.mark_all.new.marks.items c.args.kind c.args.queries.now c.loop-query.query-index c.query-item.result c.loop-query-test.true c.query-item.is
          (subst (λ xs. AreMarked c.mark_all.new.marks.items (before ++ xs)) c.numbers_of.ensures (c.mark_all.ensures.marked before c.loop-query.invariant.marked));
    }
