use Rattle.std.proofs.Common.{arith, ap}
use Rattle.moxi_scripts.specs.Cycles.{count_uses}
use Rattle.moxi_reading.proofs.LinkLaws.{systems_end, systems_step}
use Rattle.moxi_reading.proofs.cycles.count_uses.Goals as goal

pub overflow_add-count : goal.overflow_add-count
overflow_add-count c =
    let l = c.loop-r in
    let e = systems_step c.args.systems.now l.r-index c.r-item.result c.loop-r-test.true c.r-item.is in
    omega (arith, ap count_uses e, l.invariant, c.requires, c.len-count.ensures)

pub loop-r-preserved : goal.loop-r-preserved
loop-r-preserved c =
    let l = c.loop-r in
    let e = systems_step c.args.systems.now l.r-index c.r-item.result c.loop-r-test.true c.r-item.is in
    omega (arith, ap count_uses e, l.invariant, c.len-count.ensures)

pub returns : goal.returns
returns c =
    let l = c.loop-r in
    omega (arith, ap count_uses (systems_end c.args.systems.now l.r-index c.loop-r-test.false), l.invariant)
