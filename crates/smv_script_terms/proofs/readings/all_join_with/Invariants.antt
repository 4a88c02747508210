use Rattle.std.proofs.Common.{◌≡◌, drop, map}
use Rattle.smv_flat.specs.FlatTree.{flat_links_of}
use Rattle.smv_flat.specs.FlatView.{plain_flat_link}
use Rattle.smv_script.specs.Terms.{all_join_with}
use Rattle.smv_script_terms.proofs.readings.all_join_with.Given as goal

abbrev pub invariant-loop-link : goal.invariant-loop-link
invariant-loop-link l = all_join_with l.op (flat_links_of (map plain_flat_link (drop l.link-index l.links))) ≡ all_join_with l.op (flat_links_of (map plain_flat_link l.links))
