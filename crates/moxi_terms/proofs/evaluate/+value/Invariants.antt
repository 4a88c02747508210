use Rattle.std.proofs.Common.{◌≡◌, ◌≤◌, ◌++◌, ◌+◌, map, drop}
use Rattle.moxi_terms.specs.Tree.{trees_of}
use Rattle.moxi_terms.specs.View.{plain, plain_function}
use Rattle.moxi_terms.specs.Value.{at, term_values, calls_upto}
use Rattle.moxi_terms.specs.Cost.{cost, costs, cost_upto}
use Rattle.moxi_terms.specs.Evaluated.{CanEvaluateAll, values_in}
use Rattle.moxi_terms.proofs.evaluate.+value.Given as goal

abbrev pub decreases-value : goal.decreases-value
decreases-value l = cost (cost_upto (map plain_function l.scene.now.functions.now) l.scene.now.upto) (plain l.t.now)

abbrev pub decreases-inner_value : goal.decreases-inner_value
decreases-inner_value l = cost (cost_upto (map plain_function l.scene.now.functions.now) l.scene.now.upto) (plain l.t.now) + 1

abbrev pub decreases-applied_to_one : goal.decreases-applied_to_one
decreases-applied_to_one l = cost (cost_upto (map plain_function l.scene.now.functions.now) l.scene.now.upto) (plain l.a.now) + 1

abbrev pub decreases-applied_to_two : goal.decreases-applied_to_two
decreases-applied_to_two l = cost (cost_upto (map plain_function l.scene.now.functions.now) l.scene.now.upto) (plain l.a.now) + cost (cost_upto (map plain_function l.scene.now.functions.now) l.scene.now.upto) (plain l.b.now) + 1

abbrev pub decreases-call : goal.decreases-call
decreases-call l = cost_upto (map plain_function l.functions.now) l.upto l.n + 1

abbrev pub decreases-values : goal.decreases-values
decreases-values l = costs (cost_upto (map plain_function l.scene.now.functions.now) l.scene.now.upto) (trees_of (map plain l.terms.now))

abbrev pub invariant-values-loop-t : goal.invariant-values-loop-t
invariant-values-loop-t l = record {
  told : l.all.items ++ term_values (calls_upto (map plain_function l.scene.functions.now) l.scene.upto) (at (values_in l.scene.now)) (at (values_in l.scene.later)) l.fn.bound.items (trees_of (map plain (drop l.t-index l.terms)))
      ≡ term_values (calls_upto (map plain_function l.scene.functions.now) l.scene.upto) (at (values_in l.scene.now)) (at (values_in l.scene.later)) l.fn.bound.items (trees_of (map plain l.terms));
  kept : l.bound.items ≡ l.fn.bound.items;
  can : CanEvaluateAll (map plain_function l.scene.functions.now) l.scene.upto (values_in l.scene.now) (values_in l.scene.later) l.fn.bound.items (trees_of (map plain (drop l.t-index l.terms)));
  left : costs (cost_upto (map plain_function l.scene.functions.now) l.scene.upto) (trees_of (map plain (drop l.t-index l.terms)))
      ≤ costs (cost_upto (map plain_function l.scene.functions.now) l.scene.upto) (trees_of (map plain l.terms));
}
