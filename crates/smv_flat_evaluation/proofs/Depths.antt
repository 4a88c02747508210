-- How deep an expression's parts nest; a chain is one level, but each `->` of one is.
use Rattle.std.specs.Prelude.{if◌then◌else◌, ℕ, ◌+◌, max}
use Rattle.smv_flat.specs.FlatTree.{FlatTree, flat_truth, flat_number, flat_literal, flat_symbol, flat_item, flat_prefix, flat_chain, flat_choice, flat_cases, flat_select, flat_call, flat_set, flat_range, FlatLinks, no_flat_links, flat_link, FlatBranches, no_flat_branches, flat_branch, FlatTrees, no_flat_trees, flat_tree_then, flat_from_right}

abbrev mutual
  pub flat_depth : FlatTree → ℕ
  flat_depth (flat_truth t b) = 1
  flat_depth (flat_number t n) = 1
  flat_depth (flat_literal t w) = 1
  flat_depth (flat_symbol t s) = 1
  flat_depth (flat_item t k under) = 1
  flat_depth (flat_prefix t sign n e) = flat_depth e + 1
  flat_depth (flat_chain t e ls) = max (flat_depth e) (max (flat_link_depth ls) (if flat_from_right ls then flat_right_depth ls else 0)) + 1
  flat_depth (flat_choice t bs e) = max (flat_branch_depth bs) (flat_depth e) + 1
  flat_depth (flat_cases t bs) = flat_branch_depth bs + 1
  flat_depth (flat_select t e high low) = flat_depth e + 1
  flat_depth (flat_call t f es) = flat_trees_depth es + 1
  flat_depth (flat_set t es) = flat_trees_depth es + 1
  flat_depth (flat_range t low high) = 1

  pub flat_link_depth : FlatLinks → ℕ
  flat_link_depth no_flat_links = 0
  flat_link_depth (flat_link op e ls) = max (flat_depth e) (flat_link_depth ls)

  pub flat_right_depth : FlatLinks → ℕ
  flat_right_depth no_flat_links = 0
  flat_right_depth (flat_link op e ls) = max (flat_depth e) (flat_right_depth ls) + 1

  pub flat_branch_depth : FlatBranches → ℕ
  flat_branch_depth no_flat_branches = 0
  flat_branch_depth (flat_branch c e rest) = max (max (flat_depth c) (flat_depth e)) (flat_branch_depth rest)

  pub flat_trees_depth : FlatTrees → ℕ
  flat_trees_depth no_flat_trees = 0
  flat_trees_depth (flat_tree_then e es) = max (flat_depth e) (flat_trees_depth es)

-- a chain without its first operand
abbrev pub chain_depth : FlatLinks → ℕ
chain_depth ls = max (flat_link_depth ls) (if flat_from_right ls then flat_right_depth ls else 0)
