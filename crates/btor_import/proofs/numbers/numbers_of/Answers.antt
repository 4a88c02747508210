use Rattle.std.proofs.Common.{◌≡◌, ◌+◌, Some, length, arith, refl, sym, ap, ◌∙◌}
use Rattle.std.specs.Prelude.{slice_get}
use Rattle.std.proofs.lemmas.Option.{slice_get_read}
use Rattle.btor_import.proofs.Numbering.{both_few, counts_few, counts_on, number_here, table_is, table_on}
use Rattle.btor_import.proofs.numbers.numbers_of.Goals as goal
use Rattle.text_core.proofs.ListLaws.{grown}

pub overflow_add-counts : goal.overflow_add-counts
overflow_add-counts c =
    let f = both_few c.args.nodes.now c.len-count.ensures.well_formed in
    let a = c.inputs-inputs.ensures in
    let b = c.states-states.ensures in
    omega (arith, f, a, b)

pub counted_on-counts-requires-clause-inputs : goal.counted_on-counts-requires-clause-inputs
counted_on-counts-requires-clause-inputs c = (counts_few c.args.nodes.now c.loop-line.line-index c.loop-line.counts c.len-count.ensures.well_formed c.loop-line.invariant.counts).0

pub counted_on-counts-requires-clause-states : goal.counted_on-counts-requires-clause-states
counted_on-counts-requires-clause-states c = (counts_few c.args.nodes.now c.loop-line.line-index c.loop-line.counts c.len-count.ensures.well_formed c.loop-line.invariant.counts).1

pub counted_on-counts-requires-clause-locals : goal.counted_on-counts-requires-clause-locals
counted_on-counts-requires-clause-locals c = (counts_few c.args.nodes.now c.loop-line.line-index c.loop-line.counts c.len-count.ensures.well_formed c.loop-line.invariant.counts).2

pub loop-line-preserved : goal.loop-line-preserved
loop-line-preserved c =
    let i = c.loop-line.line-index in
    let l = c.line-item.result in
    let here : slice_get c.as_slice-line-items.result.now i ≡ Some l = slice_get_read c.as_slice-line-items.result.now _ i l refl c.loop-line-test.true c.line-item.is in
    let at : slice_get c.args.nodes.now i ≡ Some l = ap (λ xs. slice_get xs i) (sym c.as_slice-line-items.ensures) ∙ here in
    record {
      counts = counts_on c.args.nodes.now c.loop-line.line-index c.line-item.result c.loop-line.counts c.counted_on-counts.result at c.loop-line.invariant.counts c.counted_on-counts.ensures;
      sized = ap length c.in_ok-push.ensures.items ∙ grown c.loop-line.all.items c.number_in.result ∙ ap (λ n. n + 1) c.loop-line.invariant.sized;
      each = table_on c.args.nodes.now c.loop-line.all.items c.push.new.self.items c.loop-line.line-index c.number_in.result c.loop-line.invariant.sized c.in_ok-push.ensures.items
          (number_here c.args.nodes.now c.loop-line.line-index c.line-item.result c.loop-line.counts c.number_in.result at c.loop-line.invariant.counts c.number_in.ensures) c.loop-line.invariant.each;
    }

pub returns-clause-numbers : goal.returns-clause-numbers
returns-clause-numbers c =
    let e : c.loop-line.line-index ≡ length c.args.nodes.now = omega (arith, c.loop-line-test.false, c.loop-line.auto.line-index-end, ap length c.as_slice-line-items.ensures) in
    table_is c.args.nodes.now c.loop-line.all.items (c.loop-line.invariant.sized ∙ e) (λ k h. c.loop-line.invariant.each k (omega (arith, h, e)))
