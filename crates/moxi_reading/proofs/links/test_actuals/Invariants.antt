use Rattle.std.proofs.Common.{◌≡◌, drop}
use Rattle.moxi_scripts.specs.Collecting.{also}
use Rattle.moxi_scripts.specs.Links.{actuals_clash}
use Rattle.moxi_reading.proofs.links.test_actuals.Given as goal

abbrev pub invariant-loop-i : goal.invariant-loop-i
invariant-loop-i l = also l.found (actuals_clash l.lists l.i (drop l.i l.actuals)) ≡ also l.fn.found (actuals_clash l.lists 0 l.actuals)
