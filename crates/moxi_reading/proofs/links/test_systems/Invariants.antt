use Rattle.std.proofs.Common.{◌≡◌, drop, map}
use Rattle.moxi_scripts.specs.Collecting.{also}
use Rattle.moxi_scripts.specs.Links.{systems_failures}
use Rattle.moxi_declarations.specs.Views.{plain_reading}
use Rattle.moxi_reading.proofs.links.test_systems.Given as goal

abbrev pub invariant-loop-r : goal.invariant-loop-r
invariant-loop-r l = also l.found (systems_failures (map plain_reading l.systems) l.names (map plain_reading (drop l.r-index l.tested))) ≡ also l.fn.found (systems_failures (map plain_reading l.systems) l.names (map plain_reading l.tested))
