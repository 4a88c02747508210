use Rattle.std.proofs.Common.{◌+◌, drop, ap, add-one, ◌∙◌}
use Rattle.moxi_scripts.specs.Collecting.{also}
use Rattle.moxi_scripts.specs.Declarations.{clash_failures}
use Rattle.moxi_scripts.specs.Links.{actuals_clash}
use Rattle.moxi_attributes.specs.laws.Collecting.{also_end, also_step}
use Rattle.moxi_scripts.proofs.Forms.{items_end, items_step}
use Rattle.moxi_reading.proofs.links.test_actuals.Goals as goal

pub loop-i-preserved : goal.loop-i-preserved
loop-i-preserved c =
    let l = c.loop-i in
    let a = c.args in
    let e = items_step a.actuals.now l.i c.len-i-end.result c.at-a.result.now c.len-i-end.ensures c.loop-i-test.true c.at-a.ensures in
    let x = c.at-a.result.now in
    ap (λ k. also c.test_clash.new.found (actuals_clash a.lists.now k (drop (l.i + 1) a.actuals.now))) (add-one l.i)
    ∙ also_step _ _ _ _ _ _ (c.test_clash.ensures ∙ ap (λ o. also l.found (clash_failures x.sort o x.place)) c.sort_at.ensures) (ap (actuals_clash a.lists.now l.i) e) l.invariant

pub returns : goal.returns
returns c =
    let l = c.loop-i in
    let a = c.args in
    also_end _ _ _ (ap (actuals_clash a.lists.now l.i) (items_end a.actuals.now l.i c.len-i-end.result c.len-i-end.ensures c.loop-i-test.false)) l.invariant
