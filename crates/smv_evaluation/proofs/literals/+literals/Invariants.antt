use Rattle.std.proofs.Common.{◌≡◌, ◌≤◌, ◌+◌, ◌*◌, drop, map}
use Rattle.smv_text.specs.Tree.{links_of, branches_of, trees_of}
use Rattle.smv_text.specs.View.{plain, plain_branch, plain_link}
use Rattle.smv_meaning.specs.Safety.{depth, link_depth, branch_depth, tree_depth}
use Rattle.smv_meaning.specs.Literals.{link_words, branch_words, tree_words}
use Rattle.smv_evaluation.proofs.literals.+literals.Given as goal

abbrev pub decreases-in_expression : goal.decreases-in_expression
decreases-in_expression l = 2 * depth (plain l.e.now)

abbrev pub decreases-in_links : goal.decreases-in_links
decreases-in_links l = 2 * link_depth (links_of (map plain_link l.links.now)) + 1

abbrev pub decreases-in_branches : goal.decreases-in_branches
decreases-in_branches l = 2 * branch_depth (branches_of (map plain_branch l.branches.now)) + 1

abbrev pub decreases-in_expressions : goal.decreases-in_expressions
decreases-in_expressions l = 2 * tree_depth (trees_of (map plain l.expressions.now)) + 1

abbrev pub invariant-in_links-loop-link : goal.invariant-in_links-loop-link
invariant-in_links-loop-link l = record {
  low : link_depth (links_of (map plain_link (drop l.link-index l.links))) ≤ link_depth (links_of (map plain_link l.links));
  same : link_words (links_of (map plain_link (drop l.link-index l.links))) ≡ link_words (links_of (map plain_link l.links));
}

abbrev pub invariant-in_branches-loop-branch : goal.invariant-in_branches-loop-branch
invariant-in_branches-loop-branch l = record {
  low : branch_depth (branches_of (map plain_branch (drop l.branch-index l.branches))) ≤ branch_depth (branches_of (map plain_branch l.branches));
  same : branch_words (branches_of (map plain_branch (drop l.branch-index l.branches))) ≡ branch_words (branches_of (map plain_branch l.branches));
}

abbrev pub invariant-in_expressions-loop-expression : goal.invariant-in_expressions-loop-expression
invariant-in_expressions-loop-expression l = record {
  low : tree_depth (trees_of (map plain (drop l.expression-index l.expressions))) ≤ tree_depth (trees_of (map plain l.expressions));
  same : tree_words (trees_of (map plain (drop l.expression-index l.expressions))) ≡ tree_words (trees_of (map plain l.expressions));
}
