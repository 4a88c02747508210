use Rattle.std.proofs.Common.{ap}
use Rattle.std.proofs.lemmas.List.{nil_from_length}
use Rattle.std.specs.Slice.Iter.{iter_rest}
use Rattle.moxi_scripts.specs.Links.{taken_failures}
use Rattle.moxi_attributes.specs.laws.Collecting.{also_end}
use Rattle.moxi_reading.proofs.links.test_taken.Goals as goal

pub returns : goal.returns
returns c =
    let l = c.loop-d in
    also_end _ _ _ (ap (taken_failures c.args.scope.now c.args.names.now) (nil_from_length (iter_rest l.d-iterator) c.in-None.ensures.steps.0)) l.invariant
