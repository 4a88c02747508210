use Rattle.std.proofs.Common.{arith}
use Rattle.smv_items.proofs.NumberLemmas.{all_noted, item_noted}
use Rattle.smv_items.proofs.numbers.numbers_of.Goals as goal

pub loop-k-init : goal.loop-k-init
loop-k-init c = λ t e. c.in_ok-numbers.ensures t

pub loop-k-preserved : goal.loop-k-preserved
loop-k-preserved c = λ t e.
    item_noted t c.args.origins.now c.args.paths.now c.loop-k.k c.index-origins-k.result c.index-paths-k.result c.bytes.result.now c.loop-k.numbers c.note_item.new.numbers e (omega (arith, c.loop-k-test.true))
    c.index-origins-k.is c.index-paths-k.is c.bytes.ensures c.in_ok-note_item.ensures (c.loop-k.invariant t e)

pub returns : goal.returns
returns c = λ t e. all_noted t c.args.origins.now c.loop-k.k c.loop-k.numbers (omega (arith, c.loop-k-test.false)) (c.loop-k.invariant t e)
