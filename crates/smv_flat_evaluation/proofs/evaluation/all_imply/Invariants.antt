use Rattle.std.proofs.Common.{◌≡◌, drop, map}
use Rattle.smv_flat.specs.FlatTree.{flat_links_of, flat_are_implies}
use Rattle.smv_flat.specs.FlatView.{plain_flat_link}
use Rattle.smv_flat_evaluation.proofs.evaluation.all_imply.Given as goal

abbrev pub invariant-loop-link : goal.invariant-loop-link
invariant-loop-link l = flat_are_implies (flat_links_of (map plain_flat_link (drop l.link-index l.links))) ≡ flat_are_implies (flat_links_of (map plain_flat_link l.links))
