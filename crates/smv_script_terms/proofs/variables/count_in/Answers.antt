use Rattle.std.proofs.Common.{arith}
use Rattle.smv_flat.specs.laws.FlatSteps.{drop_item}
use Rattle.smv_script_terms.specs.Groups.{group_plain}
use Rattle.smv_script_terms.proofs.Numbered.{count_on, group_few}
use Rattle.smv_script_terms.proofs.variables.count_in.Goals as goal

pub counted_item-count-requires : goal.counted_item-count-requires
counted_item-count-requires c = let f = group_few (group_plain c.args.group) c.args.items.now in let i = c.loop-item.invariant in omega (arith, f, i)

pub loop-item-preserved : goal.loop-item-preserved
loop-item-preserved c =
    count_on (group_plain c.args.group) c.args.items.now c.loop-item.item-index c.item-item.result c.loop-item.count _ _
    (drop_item c.args.items.now c.loop-item.item-index c.item-item.result c.loop-item-test.true c.item-item.is) c.counted_item-count.ensures.count c.loop-item.invariant

pub returns-clause-most : goal.returns-clause-most
returns-clause-most c = let f = group_few (group_plain c.args.group) c.args.items.now in let i = c.loop-item.invariant in omega (arith, f, i)
