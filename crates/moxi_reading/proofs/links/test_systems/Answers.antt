use Rattle.std.proofs.Common.{map, ap}
use Rattle.moxi_scripts.specs.Links.{systems_failures}
use Rattle.moxi_declarations.specs.Views.{plain_reading}
use Rattle.moxi_attributes.specs.laws.Collecting.{also_end, also_step}
use Rattle.moxi_reading.proofs.LinkLaws.{systems_end, systems_step}
use Rattle.moxi_reading.proofs.links.test_systems.Goals as goal

pub loop-r-preserved : goal.loop-r-preserved
loop-r-preserved c =
    let l = c.loop-r in
    let a = c.args in
    let e = systems_step a.tested.now l.r-index c.r-item.result c.loop-r-test.true c.r-item.is in
    also_step _ _ _ _ _ _ c.test_uses.ensures (ap (systems_failures (map plain_reading a.systems.now) a.names.now) e) l.invariant

pub returns : goal.returns
returns c =
    let l = c.loop-r in
    let a = c.args in
    also_end _ _ _ (ap (systems_failures (map plain_reading a.systems.now) a.names.now) (systems_end a.tested.now l.r-index c.loop-r-test.false)) l.invariant
