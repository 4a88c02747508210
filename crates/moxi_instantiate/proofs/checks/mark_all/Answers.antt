use Rattle.std.proofs.Common.{◌≡◌, ◌++◌, ◌∙◌, length, take, refl, ap, subst, arith}
use Rattle.std.specs.Prelude.{slice_index_or}
use Rattle.std.proofs.Math.Seq.{take-length}
use Rattle.moxi_instantiate.specs.CheckCounts.{AreMarked}
use Rattle.moxi_instantiate.proofs.Marking.{marked_more}
use Rattle.moxi_instantiate.proofs.checks.mark_all.Goals as goal

pub loop-number-preserved : goal.loop-number-preserved
loop-number-preserved c =
    let numbers = c.args.numbers.now in
    let k = c.loop-number.number-index in
    record {
      long = c.mark.ensures.long ∙ c.loop-number.invariant.long;
      marked = λ named h.
          marked_more c.mark.new.marks.items named numbers k (slice_index_or numbers k 0) 0 c.loop-number-test.true refl (c.mark.ensures.marked (named ++ take k numbers) (c.loop-number.invariant.marked named h));
    }

pub returns-clause-marked : goal.returns-clause-marked
returns-clause-marked c = λ named h.
    let numbers = c.args.numbers.now in
    let e : c.loop-number.number-index ≡ length c.args.numbers.now = omega (arith, c.loop-number-test.false, c.loop-number.auto.number-index-end) in
    subst (λ xs. AreMarked c.loop-number.marks.items (named ++ xs)) (ap (λ n. take n numbers) e ∙ take-length numbers) (c.loop-number.invariant.marked named h)
