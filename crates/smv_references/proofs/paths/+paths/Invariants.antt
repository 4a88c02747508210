use Rattle.std.proofs.Common.{◌≡◌, ◌+◌, ◌*◌, ◌≤◌, ◌++◌, List, drop, map}
use Rattle.smv_text.specs.declared.tree.Path.{Path as PlainPath}
use Rattle.smv_text.specs.Tree.{links_of, branches_of, trees_of}
use Rattle.smv_text.specs.View.{plain, plain_link, plain_branch}
use Rattle.smv_meaning.specs.Expressions.{link_paths, branch_paths, tree_paths}
use Rattle.smv_meaning.specs.Safety.{depth, link_depth, branch_depth, tree_depth}
use Rattle.smv_references.specs.View.{path_seen}
use Rattle.smv_references.proofs.paths.+paths.Given as goal

abbrev pub decreases-add_paths : goal.decreases-add_paths
decreases-add_paths l = 2 * depth (plain l.e.now)

abbrev pub decreases-add_link_paths : goal.decreases-add_link_paths
decreases-add_link_paths l = 2 * link_depth (links_of (map plain_link l.links.now)) + 1

abbrev pub decreases-add_branch_paths : goal.decreases-add_branch_paths
decreases-add_branch_paths l = 2 * branch_depth (branches_of (map plain_branch l.branches.now)) + 1

abbrev pub decreases-add_tree_paths : goal.decreases-add_tree_paths
decreases-add_tree_paths l = 2 * tree_depth (trees_of (map plain l.trees.now)) + 1

abbrev pub invariant-add_branch_paths-loop-branch : goal.invariant-add_branch_paths-loop-branch
invariant-add_branch_paths-loop-branch l = record {
  low : branch_depth (branches_of (map plain_branch (drop l.branch-index l.branches))) ≤ branch_depth (branches_of (map plain_branch l.branches));
  same : (more : List PlainPath) → map path_seen l.paths.items ++ branch_paths (branches_of (map plain_branch (drop l.branch-index l.branches))) more ≡ map path_seen l.fn.paths.items ++ branch_paths (branches_of (map plain_branch l.branches)) more;
}

abbrev pub invariant-add_link_paths-loop-link : goal.invariant-add_link_paths-loop-link
invariant-add_link_paths-loop-link l = record {
  low : link_depth (links_of (map plain_link (drop l.link-index l.links))) ≤ link_depth (links_of (map plain_link l.links));
  same : (more : List PlainPath) → map path_seen l.paths.items ++ link_paths (links_of (map plain_link (drop l.link-index l.links))) more ≡ map path_seen l.fn.paths.items ++ link_paths (links_of (map plain_link l.links)) more;
}

abbrev pub invariant-add_tree_paths-loop-tree : goal.invariant-add_tree_paths-loop-tree
invariant-add_tree_paths-loop-tree l = record {
  low : tree_depth (trees_of (map plain (drop l.tree-index l.trees))) ≤ tree_depth (trees_of (map plain l.trees));
  same : (more : List PlainPath) → map path_seen l.paths.items ++ tree_paths (trees_of (map plain (drop l.tree-index l.trees))) more ≡ map path_seen l.fn.paths.items ++ tree_paths (trees_of (map plain l.trees)) more;
}
