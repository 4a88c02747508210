use Rattle.std.proofs.Common.{◌++◌, ◌∷◌, [], ◌+◌, append-nil, arith, map, drop, ap, sym, ◌∙◌}
use Rattle.moxi_scripts.specs.Cycles.{count_uses, nodes_from, system_rows}
use Rattle.moxi_declarations.specs.Views.{plain_reading}
use Rattle.moxi_attributes.specs.laws.Collecting.{list_step}
use Rattle.moxi_reading.proofs.LinkLaws.{systems_end, systems_step}
use Rattle.moxi_reading.proofs.cycles.add_system_rows.Goals as goal

pub nodes_from-requires : goal.nodes_from-requires
nodes_from-requires c =
    let l = c.loop-r in
    let e = systems_step c.args.systems.now l.r-index c.r-item.result c.loop-r-test.true c.r-item.is in
    omega (arith, ap count_uses e, l.invariant.count, c.requires, c.len-count.ensures)

pub overflow_add-start : goal.overflow_add-start
overflow_add-start c =
    let l = c.loop-r in
    let e = systems_step c.args.systems.now l.r-index c.r-item.result c.loop-r-test.true c.r-item.is in
    omega (arith, ap count_uses e, l.invariant.count, c.requires, c.len-count.ensures)

pub loop-r-preserved : goal.loop-r-preserved
loop-r-preserved c =
    let l = c.loop-r in
    let a = c.args in
    let e = systems_step a.systems.now l.r-index c.r-item.result c.loop-r-test.true c.r-item.is in
    let rest = map plain_reading (drop (l.r-index + 1) a.systems.now) in
    record {
      rows = ap (λ k. c.push.new.self ++ system_rows (l.start + k) rest) c.len-count.ensures
          ∙ list_step _ _ _ _ _ _ (c.in_ok-push.ensures.ok ∙ ap (λ x. l.graph ++ x ∷ []) (c.in_ok-nodes.ensures ∙ ap (nodes_from l.start) c.len-count.ensures)) (ap (system_rows l.start) e) l.invariant.rows;
      count = omega (arith, ap count_uses e, l.invariant.count, c.len-count.ensures);
    }

pub returns : goal.returns
returns c =
    let l = c.loop-r in
    sym (append-nil l.graph) ∙ ap (λ x. l.graph ++ system_rows l.start x) (sym (systems_end c.args.systems.now l.r-index c.loop-r-test.false)) ∙ l.invariant.rows
