use Rattle.std.proofs.Common.{◌+◌, map, drop, arith, ap, ◌∙◌}
use Rattle.moxi_scripts.specs.Collecting.{also}
use Rattle.moxi_scripts.specs.Cycles.{all_cycles, count_uses}
use Rattle.moxi_declarations.specs.Views.{plain_reading}
use Rattle.moxi_attributes.specs.laws.Collecting.{also_end, also_step}
use Rattle.moxi_reading.proofs.LinkLaws.{systems_end, systems_step}
use Rattle.moxi_reading.proofs.cycles.test_all_uses.Goals as goal

pub test_uses-requires-clause-there : goal.test_uses-requires-clause-there
test_uses-requires-clause-there c =
    let l = c.loop-r in
    let e = systems_step c.args.systems.now l.r-index c.r-item.result c.loop-r-test.true c.r-item.is in
    omega (arith, ap count_uses e, l.invariant.count, c.requires.there)

pub overflow_add-node : goal.overflow_add-node
overflow_add-node c =
    let l = c.loop-r in
    let e = systems_step c.args.systems.now l.r-index c.r-item.result c.loop-r-test.true c.r-item.is in
    omega (arith, ap count_uses e, l.invariant.count, c.requires.there, c.requires.few, c.len-node.ensures)

pub loop-r-preserved : goal.loop-r-preserved
loop-r-preserved c =
    let l = c.loop-r in
    let a = c.args in
    let e = systems_step a.systems.now l.r-index c.r-item.result c.loop-r-test.true c.r-item.is in
    let rest = map plain_reading (drop (l.r-index + 1) a.systems.now) in
    record {
      finds = ap (λ k. also c.test_uses.new.found (all_cycles a.graph.now (l.node + k) rest)) c.len-node.ensures
          ∙ also_step _ _ _ _ _ _ c.in_ok-test_uses.ensures (ap (all_cycles a.graph.now l.node) e) l.invariant.finds;
      count = omega (arith, ap count_uses e, l.invariant.count, c.len-node.ensures);
    }

pub returns : goal.returns
returns c =
    let l = c.loop-r in
    let a = c.args in
    also_end _ _ _ (ap (all_cycles a.graph.now l.node) (systems_end a.systems.now l.r-index c.loop-r-test.false)) l.invariant.finds
