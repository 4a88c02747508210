use Rattle.std.proofs.Common.{drop, length, ◌+◌, ◌*◌, ◌≡◌, ◌≤◌, max, map, ◌+ℤ◌, pos}
use Rattle.smv_text.specs.Tree.{links_of, branches_of, trees_of}
use Rattle.smv_text.specs.View.{plain, plain_branch, plain_link}
use Rattle.smv_meaning.specs.Expressions.{values_of, one_permits}
use Rattle.smv_meaning.specs.Operators.{trues}
use Rattle.smv_meaning.specs.Safety.{depth, right_depth, link_depth, branch_depth, tree_depth, fronts_value, fronts_permit}
use Rattle.smv_evaluation.specs.Rows.{reads_now, reads_later, CachedSafeLinks, CachedSafeBranches, CachedSafeTrees, cached_denote, cached_chosen}
use Rattle.smv_operators.specs.View.{seen_value, plain_or}
use Rattle.smv_evaluation.proofs.evaluate.+evaluate.Given as goal

abbrev pub decreases-evaluate : goal.decreases-evaluate
decreases-evaluate l = 8 * depth (plain l.e.now) + 1

abbrev pub decreases-permits : goal.decreases-permits
decreases-permits l = 8 * depth (plain l.e.now) + 2

abbrev pub decreases-next_front : goal.decreases-next_front
decreases-next_front l = 8 * depth (plain l.operand.now) + 3

abbrev pub decreases-rest_implied : goal.decreases-rest_implied
decreases-rest_implied l = 8 * right_depth (links_of (map plain_link l.links.now)) + 4

abbrev pub decreases-last_front : goal.decreases-last_front
decreases-last_front l = 8 * link_depth (links_of (map plain_link l.links.now)) + 4

abbrev pub decreases-last_has : goal.decreases-last_has
decreases-last_has l = 8 * link_depth (links_of (map plain_link l.links.now)) + 4

abbrev pub decreases-chosen_branch : goal.decreases-chosen_branch
decreases-chosen_branch l = 8 * max (branch_depth (branches_of (map plain_branch l.branches.now))) (depth (plain l.last.now)) + 3

abbrev pub decreases-taken_branch : goal.decreases-taken_branch
decreases-taken_branch l = 8 * branch_depth (branches_of (map plain_branch l.branches.now)) + 4

abbrev pub decreases-call_value : goal.decreases-call_value
decreases-call_value l = 8 * tree_depth (trees_of (map plain l.arguments.now)) + 3

abbrev pub decreases-one_has : goal.decreases-one_has
decreases-one_has l = 8 * tree_depth (trees_of (map plain l.elements.now)) + 3

abbrev pub invariant-last_front-loop-link : goal.invariant-last_front-loop-link
invariant-last_front-loop-link l = record {
  low : link_depth (links_of (map plain_link (drop l.link-index l.links))) ≤ link_depth (links_of (map plain_link l.links));
  safe : CachedSafeLinks l.scene (plain_or l.front (seen_value l.first)) (links_of (map plain_link (drop l.link-index l.links)));
  same : fronts_value (reads_now l.scene) (reads_later l.scene) (plain_or l.front (seen_value l.first)) (links_of (map plain_link (drop l.link-index l.links))) ≡ fronts_value (reads_now l.scene) (reads_later l.scene) (seen_value l.first) (links_of (map plain_link l.links));
}

abbrev pub invariant-last_has-loop-link : goal.invariant-last_has-loop-link
invariant-last_has-loop-link l = record {
  low : link_depth (links_of (map plain_link (drop l.link-index l.links))) ≤ link_depth (links_of (map plain_link l.links));
  safe : CachedSafeLinks l.scene (plain_or l.front (seen_value l.first)) (links_of (map plain_link (drop l.link-index l.links)));
  same : fronts_permit (reads_now l.scene) (reads_later l.scene) (seen_value l.value) (plain_or l.front (seen_value l.first)) l.has (links_of (map plain_link (drop l.link-index l.links))) ≡ fronts_permit (reads_now l.scene) (reads_later l.scene) (seen_value l.value) (seen_value l.first) l.fn.first_has (links_of (map plain_link l.links));
}

abbrev pub invariant-chosen_branch-loop-branch : goal.invariant-chosen_branch-loop-branch
invariant-chosen_branch-loop-branch l = record {
  low : branch_depth (branches_of (map plain_branch l.rest)) ≤ branch_depth (branches_of (map plain_branch l.fn.branches));
  safe : CachedSafeBranches l.scene (branches_of (map plain_branch l.rest));
  same : cached_chosen l.scene (branches_of (map plain_branch l.rest)) (cached_denote l.scene (plain l.last)) ≡ cached_chosen l.scene (branches_of (map plain_branch l.fn.branches)) (cached_denote l.scene (plain l.last));
}

abbrev pub decreases-chosen_branch-loop-branch : goal.decreases-chosen_branch-loop-branch
decreases-chosen_branch-loop-branch l = length l.rest

abbrev pub invariant-call_value-loop-argument : goal.invariant-call_value-loop-argument
invariant-call_value-loop-argument l = record {
  low : tree_depth (trees_of (map plain (drop l.argument-index l.arguments))) ≤ tree_depth (trees_of (map plain l.arguments));
  safe : CachedSafeTrees l.scene (trees_of (map plain (drop l.argument-index l.arguments)));
  same : l.count +ℤ pos (trues (values_of (reads_now l.scene) (reads_later l.scene) (trees_of (map plain (drop l.argument-index l.arguments))))) ≡ pos (trues (values_of (reads_now l.scene) (reads_later l.scene) (trees_of (map plain l.arguments))));
}

abbrev pub invariant-one_has-loop-element : goal.invariant-one_has-loop-element
invariant-one_has-loop-element l = record {
  low : tree_depth (trees_of (map plain (drop l.element-index l.elements))) ≤ tree_depth (trees_of (map plain l.elements));
  safe : CachedSafeTrees l.scene (trees_of (map plain (drop l.element-index l.elements)));
  same : one_permits (reads_now l.scene) (reads_later l.scene) (trees_of (map plain (drop l.element-index l.elements))) (seen_value l.value) ≡ one_permits (reads_now l.scene) (reads_later l.scene) (trees_of (map plain l.elements)) (seen_value l.value);
}
