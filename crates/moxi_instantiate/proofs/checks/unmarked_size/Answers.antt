use Rattle.std.proofs.Common.{◌<◌, ◌∙◌, subst, sym}
use Rattle.moxi_instantiate.specs.Counting.{capped}
use Rattle.moxi_instantiate.specs.CheckCounts.{unnamed_sum}
use Rattle.moxi_instantiate.proofs.Marking.{unnamed_step}
use Rattle.moxi_instantiate.proofs.checks.unmarked_size.Goals as goal

pub loop-k-preserved : goal.loop-k-preserved
loop-k-preserved c =
    let counts = c.args.counts.now in
    let k = c.loop-k.k in
    record {
      value = λ named m.
          unnamed_step named counts k c.is_marked-marked.result c.loop-k.total c.cap-count.result c.unless.result c.sum-total.result (capped (unnamed_sum named 0 counts)) c.loop-k-test.true
          (c.is_marked-marked.ensures ∙ m k (subst (λ n. k < n) (sym c.requires.long) c.loop-k-test.true)) c.cap-count.ensures.value c.unless.ensures.value c.sum-total.ensures.value
          (c.loop-k.invariant.value named m);
      bound = c.sum-total.ensures.bound;
    }
