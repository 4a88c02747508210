-- How deep an expression's parts nest.
use Rattle.std.specs.Prelude.{ℕ, ◌+◌, max, List, [], ◌∷◌}
use Rattle.smv_flat.specs.FlatForms.{Form}
use Rattle.smv_flat.specs.FlatTree.{FlatTree, flat_truth, flat_number, flat_literal, flat_symbol, flat_item, flat_prefix, flat_chain, flat_choice, flat_cases, flat_select, flat_call, flat_set, flat_range, FlatLinks, no_flat_links, flat_link, FlatBranches, no_flat_branches, flat_branch, FlatTrees, no_flat_trees, flat_tree_then}

-- A chain and a call count as one level, as they may bind a name; any other expression counts as `other`.
abbrev mutual
  pub depth : ℕ → FlatTree → ℕ
  depth other (flat_truth t b) = other
  depth other (flat_number t n) = other
  depth other (flat_literal t w) = other
  depth other (flat_symbol t s) = other
  depth other (flat_item t k under) = other
  depth other (flat_prefix t sign n e) = depth other e + other
  depth other (flat_chain t e ls) = max (depth other e) (links_depth other ls) + 1
  depth other (flat_choice t bs e) = max (branches_depth other bs) (depth other e) + other
  depth other (flat_cases t bs) = branches_depth other bs + other
  depth other (flat_select t e high low) = depth other e + other
  depth other (flat_call t f es) = trees_depth other es + 1
  depth other (flat_set t es) = trees_depth other es + other
  depth other (flat_range t low high) = other

  pub links_depth : ℕ → FlatLinks → ℕ
  links_depth other no_flat_links = 0
  links_depth other (flat_link op e ls) = max (depth other e) (links_depth other ls)

  pub branches_depth : ℕ → FlatBranches → ℕ
  branches_depth other no_flat_branches = 0
  branches_depth other (flat_branch c e rest) = max (max (depth other c) (depth other e)) (branches_depth other rest)

  pub trees_depth : ℕ → FlatTrees → ℕ
  trees_depth other no_flat_trees = 0
  trees_depth other (flat_tree_then e es) = max (depth other e) (trees_depth other es)

-- How many names are bound around a part of the formulas' bodies at most.
abbrev pub forms_depth : List Form → ℕ
forms_depth [] = 0
forms_depth (f ∷ fs) = max (depth 0 f.body) (forms_depth fs)
