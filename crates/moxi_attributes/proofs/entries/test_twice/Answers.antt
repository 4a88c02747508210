use Rattle.std.proofs.Common.{ap}
use Rattle.std.proofs.lemmas.List.{nil_from_length}
use Rattle.std.specs.Slice.Iter.{iter_rest}
use Rattle.moxi_scripts.specs.Entries.{twice_failures}
use Rattle.moxi_attributes.specs.laws.Collecting.{also_end}
use Rattle.moxi_attributes.proofs.entries.test_twice.Goals as goal

pub returns-clause-finds : goal.returns-clause-finds
returns-clause-finds c =
    let l = c.loop-entry in
    also_end _ _ _ (ap (twice_failures l.names) (nil_from_length (iter_rest l.entry-iterator) c.in-None.ensures.steps.0)) l.invariant.finds
