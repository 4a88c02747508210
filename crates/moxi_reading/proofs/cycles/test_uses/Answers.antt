use Rattle.std.proofs.Common.{◌+◌, ap}
use Rattle.std.proofs.lemmas.List.{nil_from_length}
use Rattle.std.specs.Slice.Iter.{iter_rest}
use Rattle.moxi_scripts.specs.Cycles.{use_cycles}
use Rattle.moxi_attributes.specs.laws.Collecting.{also_end}
use Rattle.moxi_reading.proofs.cycles.test_uses.Goals as goal

pub returns : goal.returns
returns c =
    let l = c.loop-i in
    also_end _ _ _ (ap (use_cycles c.args.graph.now (c.args.node + l.i)) (nil_from_length (iter_rest l.u-iterator) c.in-None.ensures.steps.0)) l.invariant.finds
