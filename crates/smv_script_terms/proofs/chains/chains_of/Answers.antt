use Rattle.std.proofs.Common.{◌≤◌, ◌-◌, length, arith}
use Rattle.smv_script_terms.proofs.Chained.{chained_put}
use Rattle.smv_script_terms.proofs.chains.chains_of.Goals as goal

pub places-preserved-then-number-count : goal.places-preserved-then-number-count
places-preserved-then-number-count c =
    let l = c.places in
    record {
      within = let r : l.place - 1 ≤ length c.args.numbers.items = omega (arith, l.invariant.within) in r;
      chained = chained_put c.args.numbers.items l.firsts.items l.nexts.items c.args.count l.place c.index-number.result.now c.index.result.now c.places-test.true l.invariant.within c.index-number.ensures c.if-number-count.true c.index.ensures l.invariant.chained;
    }
