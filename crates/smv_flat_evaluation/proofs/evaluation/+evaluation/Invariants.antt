use Rattle.std.proofs.Common.{◌+◌, ◌*◌, ◌≡◌, ◌≤◌, max, drop, map, ◌+ℤ◌, pos}
use Rattle.smv_meaning.specs.Operators.{trues}
use Rattle.smv_flat.specs.FlatTree.{flat_links_of, flat_branches_of, flat_trees_of, flat_denote, flat_chosen, flat_values, flat_permits}
use Rattle.smv_flat.specs.FlatView.{plain_flat, plain_flat_branch, plain_flat_link}
use Rattle.smv_flat.specs.FlatTruth.{symbol_value}
use Rattle.smv_operators.specs.View.{seen_value}
use Rattle.smv_flat_evaluation.specs.RowValues.{row_values}
use Rattle.smv_flat_evaluation.specs.Fronts.{flat_fronts_value, flat_fronts_permit}
use Rattle.smv_flat_evaluation.specs.FlatSafety.{FlatSafeLinks, FlatSafeBranches, FlatSafeTrees}
use Rattle.smv_flat_evaluation.proofs.Depths.{flat_depth, flat_right_depth, flat_link_depth, flat_branch_depth, flat_trees_depth, chain_depth}
use Rattle.smv_flat_evaluation.proofs.evaluation.+evaluation.Given as goal

abbrev pub decreases-evaluate : goal.decreases-evaluate
decreases-evaluate l = 8 * flat_depth (plain_flat l.e.now) + 1

abbrev pub decreases-permits : goal.decreases-permits
decreases-permits l = 8 * flat_depth (plain_flat l.e.now) + 2

abbrev pub decreases-next_front : goal.decreases-next_front
decreases-next_front l = 8 * flat_depth (plain_flat l.operand.now) + 3

abbrev pub decreases-chained : goal.decreases-chained
decreases-chained l = 8 * chain_depth (flat_links_of (map plain_flat_link l.links.now)) + 5

abbrev pub decreases-rest_implied : goal.decreases-rest_implied
decreases-rest_implied l = 8 * flat_right_depth (flat_links_of (map plain_flat_link l.links.now)) + 4

abbrev pub decreases-last_front : goal.decreases-last_front
decreases-last_front l = 8 * flat_link_depth (flat_links_of (map plain_flat_link l.links.now)) + 4

abbrev pub decreases-last_permits : goal.decreases-last_permits
decreases-last_permits l = 8 * flat_link_depth (flat_links_of (map plain_flat_link l.links.now)) + 4

abbrev pub decreases-chosen : goal.decreases-chosen
decreases-chosen l = 8 * max (flat_branch_depth (flat_branches_of (map plain_flat_branch l.branches.now))) (flat_depth (plain_flat l.last.now)) + 3

abbrev pub decreases-chosen_permits : goal.decreases-chosen_permits
decreases-chosen_permits l = 8 * max (flat_branch_depth (flat_branches_of (map plain_flat_branch l.branches.now))) (flat_depth (plain_flat l.last.now)) + 3

abbrev pub decreases-taken : goal.decreases-taken
decreases-taken l = 8 * flat_branch_depth (flat_branches_of (map plain_flat_branch l.branches.now)) + 4

abbrev pub decreases-taken_permits : goal.decreases-taken_permits
decreases-taken_permits l = 8 * flat_branch_depth (flat_branches_of (map plain_flat_branch l.branches.now)) + 4

abbrev pub decreases-call_value : goal.decreases-call_value
decreases-call_value l = 8 * flat_trees_depth (flat_trees_of (map plain_flat l.arguments.now)) + 4

abbrev pub decreases-one_permits : goal.decreases-one_permits
decreases-one_permits l = 8 * flat_trees_depth (flat_trees_of (map plain_flat l.elements.now)) + 3

abbrev pub invariant-last_front-loop-link : goal.invariant-last_front-loop-link
invariant-last_front-loop-link l = record {
  low : flat_link_depth (flat_links_of (map plain_flat_link (drop l.link-index l.links))) ≤ flat_link_depth (flat_links_of (map plain_flat_link l.links));
  safe : FlatSafeLinks (symbol_value l.symbols) (row_values l.now) (row_values l.later) (seen_value l.front) (flat_links_of (map plain_flat_link (drop l.link-index l.links)));
  same : flat_fronts_value (symbol_value l.symbols) (row_values l.now) (row_values l.later) (seen_value l.front) (flat_links_of (map plain_flat_link (drop l.link-index l.links))) ≡ flat_fronts_value (symbol_value l.symbols) (row_values l.now) (row_values l.later) (seen_value l.first) (flat_links_of (map plain_flat_link l.links));
}

abbrev pub invariant-last_permits-loop-link : goal.invariant-last_permits-loop-link
invariant-last_permits-loop-link l = record {
  low : flat_link_depth (flat_links_of (map plain_flat_link (drop l.link-index l.links))) ≤ flat_link_depth (flat_links_of (map plain_flat_link l.links));
  safe : FlatSafeLinks (symbol_value l.symbols) (row_values l.now) (row_values l.later) (seen_value l.front) (flat_links_of (map plain_flat_link (drop l.link-index l.links)));
  same : flat_fronts_permit (symbol_value l.symbols) (row_values l.now) (row_values l.later) (seen_value l.value) (seen_value l.front) l.has (flat_links_of (map plain_flat_link (drop l.link-index l.links))) ≡ flat_fronts_permit (symbol_value l.symbols) (row_values l.now) (row_values l.later) (seen_value l.value) (seen_value l.first) l.fn.first_has (flat_links_of (map plain_flat_link l.links));
}

abbrev pub invariant-chosen-loop-branch : goal.invariant-chosen-loop-branch
invariant-chosen-loop-branch l = record {
  low : flat_branch_depth (flat_branches_of (map plain_flat_branch (drop l.branch-index l.branches))) ≤ flat_branch_depth (flat_branches_of (map plain_flat_branch l.branches));
  safe : FlatSafeBranches (symbol_value l.symbols) (row_values l.now) (row_values l.later) (flat_branches_of (map plain_flat_branch (drop l.branch-index l.branches)));
  same : flat_chosen (symbol_value l.symbols) (row_values l.now) (row_values l.later) (flat_branches_of (map plain_flat_branch (drop l.branch-index l.branches))) (flat_denote (symbol_value l.symbols) (row_values l.now) (row_values l.later) (plain_flat l.last)) ≡ flat_chosen (symbol_value l.symbols) (row_values l.now) (row_values l.later) (flat_branches_of (map plain_flat_branch l.branches)) (flat_denote (symbol_value l.symbols) (row_values l.now) (row_values l.later) (plain_flat l.last));
}

abbrev pub invariant-chosen_permits-loop-branch : goal.invariant-chosen_permits-loop-branch
invariant-chosen_permits-loop-branch l = record {
  low : flat_branch_depth (flat_branches_of (map plain_flat_branch (drop l.branch-index l.branches))) ≤ flat_branch_depth (flat_branches_of (map plain_flat_branch l.branches));
  safe : FlatSafeBranches (symbol_value l.symbols) (row_values l.now) (row_values l.later) (flat_branches_of (map plain_flat_branch (drop l.branch-index l.branches)));
  same : flat_chosen (symbol_value l.symbols) (row_values l.now) (row_values l.later) (flat_branches_of (map plain_flat_branch (drop l.branch-index l.branches))) (flat_denote (symbol_value l.symbols) (row_values l.now) (row_values l.later) (plain_flat l.last)) ≡ flat_chosen (symbol_value l.symbols) (row_values l.now) (row_values l.later) (flat_branches_of (map plain_flat_branch l.branches)) (flat_denote (symbol_value l.symbols) (row_values l.now) (row_values l.later) (plain_flat l.last));
}

abbrev pub invariant-call_value-loop-argument : goal.invariant-call_value-loop-argument
invariant-call_value-loop-argument l = record {
  low : flat_trees_depth (flat_trees_of (map plain_flat (drop l.argument-index l.arguments))) ≤ flat_trees_depth (flat_trees_of (map plain_flat l.arguments));
  safe : FlatSafeTrees (symbol_value l.symbols) (row_values l.now) (row_values l.later) (flat_trees_of (map plain_flat (drop l.argument-index l.arguments)));
  same : l.count +ℤ pos (trues (flat_values (symbol_value l.symbols) (row_values l.now) (row_values l.later) (flat_trees_of (map plain_flat (drop l.argument-index l.arguments))))) ≡ pos (trues (flat_values (symbol_value l.symbols) (row_values l.now) (row_values l.later) (flat_trees_of (map plain_flat l.arguments))));
}

abbrev pub invariant-one_permits-loop-element : goal.invariant-one_permits-loop-element
invariant-one_permits-loop-element l = record {
  low : flat_trees_depth (flat_trees_of (map plain_flat (drop l.element-index l.elements))) ≤ flat_trees_depth (flat_trees_of (map plain_flat l.elements));
  safe : FlatSafeTrees (symbol_value l.symbols) (row_values l.now) (row_values l.later) (flat_trees_of (map plain_flat (drop l.element-index l.elements)));
  same : flat_permits (symbol_value l.symbols) (row_values l.now) (row_values l.later) (flat_trees_of (map plain_flat (drop l.element-index l.elements))) (seen_value l.value) ≡ flat_permits (symbol_value l.symbols) (row_values l.now) (row_values l.later) (flat_trees_of (map plain_flat l.elements)) (seen_value l.value);
}
