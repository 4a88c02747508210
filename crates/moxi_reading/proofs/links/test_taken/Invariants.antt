use Rattle.std.proofs.Common.{◌≡◌}
use Rattle.std.specs.Slice.Iter.{iter_rest}
use Rattle.moxi_scripts.specs.Collecting.{also}
use Rattle.moxi_scripts.specs.Links.{taken_failures}
use Rattle.moxi_reading.proofs.links.test_taken.Given as goal

abbrev pub invariant-loop-d : goal.invariant-loop-d
invariant-loop-d l = also l.found (taken_failures l.scope l.names (iter_rest l.d-iterator)) ≡ also l.fn.found (taken_failures l.scope l.names l.variables)
