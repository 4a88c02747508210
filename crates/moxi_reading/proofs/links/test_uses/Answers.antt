use Rattle.std.proofs.Common.{map, ap}
use Rattle.std.proofs.lemmas.List.{nil_from_length}
use Rattle.std.specs.Slice.Iter.{iter_rest}
use Rattle.moxi_scripts.specs.Links.{uses_failures}
use Rattle.moxi_declarations.specs.Views.{plain_reading}
use Rattle.moxi_attributes.specs.laws.Collecting.{also_end}
use Rattle.moxi_reading.proofs.links.test_uses.Goals as goal

pub returns : goal.returns
returns c =
    let l = c.loop-u in
    also_end _ _ _ (ap (uses_failures (map plain_reading c.args.systems.now) c.args.names.now) (nil_from_length (iter_rest l.u-iterator) c.in-None.ensures.steps.0)) l.invariant
