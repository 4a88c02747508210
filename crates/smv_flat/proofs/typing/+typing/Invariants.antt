use Rattle.std.proofs.Common.{◌≡◌, ◌++◌, ◌∷◌, ◌||◌, [], IsTrue, map, drop, option_map}
use Rattle.std.specs.List.{list_any}
use Rattle.smv_text.specs.Tree.{links_of, branches_of, trees_of}
use Rattle.smv_text.specs.View.{plain, plain_link, plain_branch}
use Rattle.smv_meaning.specs.Checks.{single, linked, tree_checks, tree_types, link_checks, link_types, branch_checks, condition_types, value_types, first_failing}
use Rattle.smv_intervals.specs.View.{seen}
use Rattle.smv_types.specs.View.{permissions_seen}
use Rattle.smv_types.specs.Outcome.{outcome, links_known, branches_known, trees_known}
use Rattle.smv_types.specs.Steps.{passed}
use Rattle.smv_flat.specs.FlatView.{plain_flat, plain_flat_link, plain_flat_branch}
use Rattle.smv_flat.proofs.TypedNodes.{link_flat, link_reaches, same_flat, branch_flat, branch_reaches, value_set, part_flat, part_reaches}
use Rattle.smv_flat.proofs.typing.+typing.Given as goal

abbrev pub invariant-fronts_typed-loop-link : goal.invariant-fronts_typed-loop-link
invariant-fronts_typed-loop-link g l = record {
  known : IsTrue (links_known (g.C.Naming.knows l.scope) (links_of (map plain_link (drop l.link-index l.links))));
  same : outcome (linked (g.C.Naming.names l.scope) (permissions_seen l.at) l.place (passed (option_map seen l.whole)) (links_of (map plain_link (drop l.link-index l.links))))
      ≡ outcome (linked (g.C.Naming.names l.scope) (permissions_seen l.at) l.place (passed (option_map seen l.fn.first)) (links_of (map plain_link l.links)));
  links : map plain_flat_link l.operands.items ++ map (link_flat (g.C.Naming.names l.scope) (g.C.Naming.leaves l.scope) (permissions_seen l.at) l.under) (drop l.link-index l.links)
      ≡ map (link_flat (g.C.Naming.names l.scope) (g.C.Naming.leaves l.scope) (permissions_seen l.at) l.under) l.links;
  inputs : (l.reaches_input || list_any (link_reaches (g.C.Naming.names l.scope)) (drop l.link-index l.links)) ≡ list_any (link_reaches (g.C.Naming.names l.scope)) l.links;
}

abbrev pub invariant-operands_typed-loop-link : goal.invariant-operands_typed-loop-link
invariant-operands_typed-loop-link g l = record {
  known : IsTrue (links_known (g.C.Naming.knows l.scope) (links_of (map plain_link (drop l.link-index l.links))));
  passes : first_failing (link_checks (g.C.Naming.names l.scope) (permissions_seen l.at) (links_of (map plain_link l.links)))
      ≡ first_failing (link_checks (g.C.Naming.names l.scope) (permissions_seen l.at) (links_of (map plain_link (drop l.link-index l.links))));
  types : map (option_map seen) l.operands.types.items ++ link_types (g.C.Naming.names l.scope) (permissions_seen l.at) (links_of (map plain_link (drop l.link-index l.links)))
      ≡ option_map seen l.fn.first ∷ link_types (g.C.Naming.names l.scope) (permissions_seen l.at) (links_of (map plain_link l.links));
  links : map plain_flat_link l.operands.links.items ++ map (same_flat (g.C.Naming.names l.scope) (g.C.Naming.leaves l.scope) (permissions_seen l.at) l.under) (drop l.link-index l.links)
      ≡ map (same_flat (g.C.Naming.names l.scope) (g.C.Naming.leaves l.scope) (permissions_seen l.at) l.under) l.links;
  inputs : (l.operands.reaches_input || list_any (link_reaches (g.C.Naming.names l.scope)) (drop l.link-index l.links)) ≡ list_any (link_reaches (g.C.Naming.names l.scope)) l.links;
}

abbrev pub invariant-parts_typed-loop-part : goal.invariant-parts_typed-loop-part
invariant-parts_typed-loop-part g l = record {
  known : IsTrue (trees_known (g.C.Naming.knows l.scope) (trees_of (map plain (drop l.part-index l.parts))));
  passes : first_failing (tree_checks (g.C.Naming.names l.scope) (permissions_seen l.at) (trees_of (map plain l.parts)))
      ≡ first_failing (tree_checks (g.C.Naming.names l.scope) (permissions_seen l.at) (trees_of (map plain (drop l.part-index l.parts))));
  types : map (option_map seen) l.all.types.items ++ tree_types (g.C.Naming.names l.scope) (permissions_seen l.at) (trees_of (map plain (drop l.part-index l.parts)))
      ≡ tree_types (g.C.Naming.names l.scope) (permissions_seen l.at) (trees_of (map plain l.parts));
  exprs : map plain_flat l.all.exprs.items ++ map (part_flat (g.C.Naming.names l.scope) (g.C.Naming.leaves l.scope) (permissions_seen l.at) l.under) (drop l.part-index l.parts)
      ≡ map (part_flat (g.C.Naming.names l.scope) (g.C.Naming.leaves l.scope) (permissions_seen l.at) l.under) l.parts;
  inputs : (l.all.reaches_input || list_any (part_reaches (g.C.Naming.names l.scope)) (drop l.part-index l.parts)) ≡ list_any (part_reaches (g.C.Naming.names l.scope)) l.parts;
}

abbrev pub invariant-branches_typed-loop-branch : goal.invariant-branches_typed-loop-branch
invariant-branches_typed-loop-branch g l = record {
  known : IsTrue (branches_known (g.C.Naming.knows l.scope) (branches_of (map plain_branch (drop l.branch-index l.branches))));
  passes : first_failing (branch_checks (g.C.Naming.names l.scope) (permissions_seen l.at) (branches_of (map plain_branch l.branches)))
      ≡ first_failing (branch_checks (g.C.Naming.names l.scope) (permissions_seen l.at) (branches_of (map plain_branch (drop l.branch-index l.branches))));
  conditions : map (option_map seen) l.cases.types.conditions.items ++ condition_types (g.C.Naming.names l.scope) (single (permissions_seen l.at)) (branches_of (map plain_branch (drop l.branch-index l.branches)))
      ≡ condition_types (g.C.Naming.names l.scope) (single (permissions_seen l.at)) (branches_of (map plain_branch l.branches));
  values : map (option_map seen) l.cases.types.values.items ++ value_types (g.C.Naming.names l.scope) (permissions_seen l.at) (branches_of (map plain_branch (drop l.branch-index l.branches))) []
      ≡ value_types (g.C.Naming.names l.scope) (permissions_seen l.at) (branches_of (map plain_branch l.branches)) [];
  branches : map plain_flat_branch l.cases.branches.items ++ map (branch_flat (g.C.Naming.names l.scope) (g.C.Naming.leaves l.scope) (permissions_seen l.at) l.under) (drop l.branch-index l.branches)
      ≡ map (branch_flat (g.C.Naming.names l.scope) (g.C.Naming.leaves l.scope) (permissions_seen l.at) l.under) l.branches;
  set : (l.cases.has_set || list_any value_set (drop l.branch-index l.branches)) ≡ list_any value_set l.branches;
  inputs : (l.cases.reaches_input || list_any (branch_reaches (g.C.Naming.names l.scope)) (drop l.branch-index l.branches)) ≡ list_any (branch_reaches (g.C.Naming.names l.scope)) l.branches;
}
