use Rattle.std.proofs.Common.{◌≡◌, ◌≤◌, ◌+◌, map, drop}
use Rattle.moxi_terms.specs.Tree.{trees_of}
use Rattle.moxi_terms.specs.View.{plain}
use Rattle.moxi_terms.specs.Cost.{cost, costs, cost_upto}
use Rattle.moxi_to_btor.specs.Terms.{CanPutTerms, all_lines_in, functions_in}
use Rattle.moxi_to_btor.proofs.Folding.{put_with}
use Rattle.moxi_to_btor.proofs.terms.+put.Given as goal

abbrev pub decreases-put_tree : goal.decreases-put_tree
decreases-put_tree l = cost (cost_upto (functions_in l.scene.now) l.scene.now.upto) (plain l.t.now)

abbrev pub decreases-put_body : goal.decreases-put_body
decreases-put_body l = cost (cost_upto (functions_in l.scene.now) l.scene.now.upto) (plain l.t.now) + 1

abbrev pub decreases-put_call : goal.decreases-put_call
decreases-put_call l = cost_upto (functions_in l.scene.now) l.scene.now.upto l.n + 1

abbrev pub decreases-put_trees : goal.decreases-put_trees
decreases-put_trees l = costs (cost_upto (functions_in l.scene.now) l.scene.now.upto) (trees_of (map plain l.terms.now))

abbrev pub invariant-put_trees-loop-t : goal.invariant-put_trees-loop-t
invariant-put_trees-loop-t l = record {
  told : put_with l.places.items (all_lines_in l.scene l.fn.bound.items l.builder (trees_of (map plain (drop l.t-index l.terms)))) ≡ all_lines_in l.scene l.fn.bound.items l.fn.builder (trees_of (map plain l.terms));
  kept : l.bound.items ≡ l.fn.bound.items;
  can : CanPutTerms l.scene l.fn.bound.items l.builder (trees_of (map plain (drop l.t-index l.terms)));
  left : costs (cost_upto (functions_in l.scene) l.scene.upto) (trees_of (map plain (drop l.t-index l.terms))) ≤ costs (cost_upto (functions_in l.scene) l.scene.upto) (trees_of (map plain l.terms));
}
