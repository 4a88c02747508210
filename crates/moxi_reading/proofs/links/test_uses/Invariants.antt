use Rattle.std.proofs.Common.{◌≡◌, map}
use Rattle.std.specs.Slice.Iter.{iter_rest}
use Rattle.moxi_scripts.specs.Collecting.{also}
use Rattle.moxi_scripts.specs.Links.{uses_failures}
use Rattle.moxi_declarations.specs.Views.{plain_reading}
use Rattle.moxi_reading.proofs.links.test_uses.Given as goal

abbrev pub invariant-loop-u : goal.invariant-loop-u
invariant-loop-u l = also l.found (uses_failures (map plain_reading l.systems) l.names (iter_rest l.u-iterator)) ≡ also l.fn.found (uses_failures (map plain_reading l.systems) l.names l.uses)
