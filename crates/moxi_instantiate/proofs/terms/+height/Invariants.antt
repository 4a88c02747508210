use Rattle.std.proofs.Common.{◌≡◌, ◌≤◌, drop, map, max}
use Rattle.moxi_terms.specs.Tree.{trees_of}
use Rattle.moxi_terms.specs.View.{plain}
use Rattle.moxi_flat.specs.Terms.{terms_height}
use Rattle.moxi_instantiate.specs.declared.counts.TheConstants.{MOST}
use Rattle.moxi_instantiate.specs.Counting.{capped, known}
use Rattle.moxi_instantiate.proofs.terms.+height.Given as goal

abbrev pub invariant-terms_height-loop-term : goal.invariant-terms_height-loop-term
invariant-terms_height-loop-term l = record {
  value : max l.height (capped (terms_height (known l.heights) (trees_of (map plain (drop l.term-index l.terms))))) ≡ capped (terms_height (known l.heights) (trees_of (map plain l.terms)));
  bound : l.height ≤ MOST;
}
