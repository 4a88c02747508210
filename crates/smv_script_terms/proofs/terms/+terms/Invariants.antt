use Rattle.std.proofs.Common.{◌≡◌, ◌+◌, ◌*◌, ◌++◌, ◌∷◌, drop, map, max}
use Rattle.moxi_terms.specs.Tree.{list_of}
use Rattle.moxi_terms.specs.View.{plain}
use Rattle.smv_flat.specs.FlatTree.{flat_links_of, flat_branches_of, flat_trees_of}
use Rattle.smv_flat.specs.FlatView.{plain_flat, plain_flat_link, plain_flat_branch}
use Rattle.smv_script.specs.Terms.{translation}
use Rattle.smv_script_terms.specs.Questions.{answered, codes_of}
use Rattle.smv_script_terms.specs.Operands.{answers, case_plain, cases_of, folded, link_answers, operand_plain, operands_of}
use Rattle.smv_script_terms.specs.Readings.{folded_answer}
use Rattle.smv_script_terms.specs.Depths.{depth, links_depth, branches_depth, trees_depth}
use Rattle.smv_script_terms.proofs.InRange.{fronts_from}
use Rattle.smv_script_terms.proofs.terms.+terms.Given as goal

abbrev pub decreases-terms_of : goal.decreases-terms_of
decreases-terms_of l = 8 * depth 1 (plain_flat l.e.now) + 1

abbrev pub decreases-prefixed : goal.decreases-prefixed
decreases-prefixed l = 8 * depth 1 (plain_flat l.operand.now) + 2

abbrev pub decreases-chained : goal.decreases-chained
decreases-chained l = 8 * max (depth 1 (plain_flat l.first.now)) (links_depth 1 (flat_links_of (map plain_flat_link l.links.now))) + 5

abbrev pub decreases-united : goal.decreases-united
decreases-united l = 8 * max (depth 1 (plain_flat l.first.now)) (links_depth 1 (flat_links_of (map plain_flat_link l.links.now))) + 4

abbrev pub decreases-link_terms : goal.decreases-link_terms
decreases-link_terms l = 8 * max (depth 1 (plain_flat l.first.now)) (links_depth 1 (flat_links_of (map plain_flat_link l.links.now))) + 3

abbrev pub decreases-operands : goal.decreases-operands
decreases-operands l = 8 * links_depth 1 (flat_links_of (map plain_flat_link l.links.now)) + 3

abbrev pub decreases-folded : goal.decreases-folded
decreases-folded l = 8 * max (depth 1 (plain_flat l.first.now)) (links_depth 1 (flat_links_of (map plain_flat_link l.links.now))) + 4

abbrev pub decreases-behind : goal.decreases-behind
decreases-behind l = 8 * depth 1 (plain_flat l.operand.now) + 2

abbrev pub decreases-taken : goal.decreases-taken
decreases-taken l = 8 * branches_depth 1 (flat_branches_of (map plain_flat_branch l.branches.now)) + 4

abbrev pub decreases-cases : goal.decreases-cases
decreases-cases l = 8 * branches_depth 1 (flat_branches_of (map plain_flat_branch l.branches.now)) + 3

abbrev pub decreases-parts : goal.decreases-parts
decreases-parts l = 8 * trees_depth 1 (flat_trees_of (map plain_flat l.exprs.now)) + 3

abbrev pub decreases-called : goal.decreases-called
decreases-called l = 8 * trees_depth 1 (flat_trees_of (map plain_flat l.arguments.now)) + 4

abbrev pub decreases-gathered : goal.decreases-gathered
decreases-gathered l = 8 * trees_depth 1 (flat_trees_of (map plain_flat l.elements.now)) + 4

abbrev pub invariant-link_terms-loop-link : goal.invariant-link_terms-loop-link
invariant-link_terms-loop-link l = map plain l.all.items ++ list_of (link_answers l.question (codes_of l.coding) l.k (flat_links_of (map plain_flat_link (drop l.link-index l.links))))
    ≡ answered l.question (translation (codes_of l.coding) (plain_flat l.first)) l.k ∷ list_of (link_answers l.question (codes_of l.coding) l.k (flat_links_of (map plain_flat_link l.links)))

abbrev pub invariant-operands-loop-link : goal.invariant-operands-loop-link
invariant-operands-loop-link l = map operand_plain l.all.items ++ operands_of (codes_of l.coding) l.k (flat_links_of (map plain_flat_link (drop l.link-index l.links)))
    ≡ operands_of (codes_of l.coding) l.k (flat_links_of (map plain_flat_link l.links))

abbrev pub invariant-folded-loop-link : goal.invariant-folded-loop-link
invariant-folded-loop-link l = record {
  same : folded (codes_of l.coding) l.k l.tested l.width (plain l.whole) (flat_links_of (map plain_flat_link (drop l.link-index l.links)))
      ≡ folded_answer (codes_of l.coding) l.k (plain_flat l.first) (flat_links_of (map plain_flat_link l.links));
  fronts : fronts_from l.width (drop l.link-index l.links) ≡ 0;
}

abbrev pub invariant-cases-loop-branch : goal.invariant-cases-loop-branch
invariant-cases-loop-branch l = map case_plain l.all.items ++ cases_of l.question (codes_of l.coding) l.k (flat_branches_of (map plain_flat_branch (drop l.branch-index l.branches)))
    ≡ cases_of l.question (codes_of l.coding) l.k (flat_branches_of (map plain_flat_branch l.branches))

abbrev pub invariant-parts-loop-e : goal.invariant-parts-loop-e
invariant-parts-loop-e l = map plain l.all.items ++ list_of (answers l.question (codes_of l.coding) l.k (flat_trees_of (map plain_flat (drop l.e-index l.exprs))))
    ≡ list_of (answers l.question (codes_of l.coding) l.k (flat_trees_of (map plain_flat l.exprs)))
