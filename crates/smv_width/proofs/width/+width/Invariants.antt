use Rattle.std.proofs.Common.{◌≡◌, ◌≤◌, drop, map, max, option_map}
use Rattle.smv_intervals.specs.View.{seen}
use Rattle.smv_flat.specs.FlatTree.{flat_links_of, flat_branches_of, flat_trees_of}
use Rattle.smv_flat.specs.FlatView.{plain_flat, plain_flat_link, plain_flat_branch}
use Rattle.smv_flat.specs.FlatWidth.{links_width, branches_width, trees_width}
use Rattle.smv_width.proofs.width.+width.Given as goal

abbrev pub invariant-links_width-loop-link : goal.invariant-links_width-loop-link
invariant-links_width-loop-link l = record {
  value : max l.width (links_width (option_map seen l.whole) (flat_links_of (map plain_flat_link (drop l.link-index l.links)))) ≡ links_width (option_map seen l.fn.first) (flat_links_of (map plain_flat_link l.links));
  bound : l.width ≤ 64;
}

abbrev pub invariant-branches_width-loop-branch : goal.invariant-branches_width-loop-branch
invariant-branches_width-loop-branch l = record {
  value : max l.width (branches_width (flat_branches_of (map plain_flat_branch (drop l.branch-index l.branches)))) ≡ branches_width (flat_branches_of (map plain_flat_branch l.branches));
  bound : l.width ≤ 64;
}

abbrev pub invariant-exprs_width-loop-expr : goal.invariant-exprs_width-loop-expr
invariant-exprs_width-loop-expr l = record {
  value : max l.width (trees_width (flat_trees_of (map plain_flat (drop l.expr-index l.exprs)))) ≡ trees_width (flat_trees_of (map plain_flat l.exprs));
  bound : l.width ≤ 64;
}
