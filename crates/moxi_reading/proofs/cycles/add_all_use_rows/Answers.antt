use Rattle.std.proofs.Common.{◌++◌, length, append-nil, ap, sym, ◌∙◌}
use Rattle.moxi_scripts.specs.Cycles.{all_use_rows}
use Rattle.moxi_attributes.specs.laws.Collecting.{list_step}
use Rattle.moxi_reading.proofs.LinkLaws.{systems_end, systems_step}
use Rattle.moxi_reading.proofs.cycles.add_all_use_rows.Goals as goal

pub loop-r-preserved : goal.loop-r-preserved
loop-r-preserved c =
    let l = c.loop-r in
    let a = c.args in
    let e = systems_step a.systems.now l.r-index c.r-item.result c.loop-r-test.true c.r-item.is in
    list_step _ _ _ _ _ _ c.in_ok-add_use_rows.ensures (ap (all_use_rows a.total (length a.systems.now) a.names.now) e) l.invariant

pub returns : goal.returns
returns c =
    let l = c.loop-r in
    let a = c.args in
    sym (append-nil l.graph) ∙ ap (λ x. l.graph ++ all_use_rows a.total (length a.systems.now) a.names.now x) (sym (systems_end a.systems.now l.r-index c.loop-r-test.false)) ∙ l.invariant
