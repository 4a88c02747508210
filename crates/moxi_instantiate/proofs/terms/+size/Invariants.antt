use Rattle.std.proofs.Common.{◌≡◌, ◌≤◌, ◌+◌, drop, map}
use Rattle.moxi_terms.specs.Tree.{trees_of}
use Rattle.moxi_terms.specs.View.{plain}
use Rattle.moxi_flat.specs.Terms.{terms_size}
use Rattle.moxi_instantiate.specs.declared.counts.TheConstants.{MOST}
use Rattle.moxi_instantiate.specs.Counting.{capped, known}
use Rattle.moxi_instantiate.proofs.terms.+size.Given as goal

abbrev pub invariant-terms_size-loop-term : goal.invariant-terms_size-loop-term
invariant-terms_size-loop-term l = record {
  value : capped (l.size + terms_size (known l.sizes) (trees_of (map plain (drop l.term-index l.terms)))) ≡ capped (terms_size (known l.sizes) (trees_of (map plain l.terms)));
  bound : l.size ≤ MOST;
}
