use Rattle.std.proofs.Common.{◌+◌, ◌*◌, ◌∙◌, ap, arith, length}
use Rattle.smv_flat.specs.laws.FlatSteps.{drop_item}
use Rattle.smv_script_terms.specs.Groups.{count_of, counted_on, counts_plain, group_plain}
use Rattle.smv_script_terms.proofs.Numbered.{numbers_on, one_more}
use Rattle.smv_script_terms.proofs.variables.places_of.Goals as goal

pub counted_on-counts-requires : goal.counted_on-counts-requires
counted_on-counts-requires c =
    let m = c.loop-item.invariant.1 in
    record { few = record { inputs = omega (arith, m.inputs); outputs = omega (arith, m.outputs); locals = omega (arith, m.locals) } }

pub loop-item-preserved : goal.loop-item-preserved
loop-item-preserved c =
    let m = one_more c.loop-item.counts c.counted_on-counts.result (group_plain c.group_of-group.result) (2 * length c.args.items.now + c.loop-item.item-index) c.counted_on-counts.ensures c.loop-item.invariant.1 in (
      numbers_on (counts_plain c.loop-item.counts) (counts_plain c.counted_on-counts.result) c.args.items.now c.loop-item.item-index c.item-item.result c.loop-item.all.items c.push.new.self.items _ _
          (drop_item c.args.items.now c.loop-item.item-index c.item-item.result c.loop-item-test.true c.item-item.is)
          c.in_ok-push.ensures.items (c.number_in.ensures ∙ ap (count_of (counts_plain c.loop-item.counts)) c.group_of-group.ensures)
          (c.counted_on-counts.ensures ∙ ap (counted_on (counts_plain c.loop-item.counts)) c.group_of-group.ensures) c.loop-item.invariant.0,
      record { inputs = omega (arith, m.inputs); outputs = omega (arith, m.outputs); locals = omega (arith, m.locals) },
    )
