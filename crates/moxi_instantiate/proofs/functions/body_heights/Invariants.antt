use Rattle.std.proofs.Common.{◌≡◌, length, map}
use Rattle.moxi_terms.specs.View.{plain_function}
use Rattle.moxi_flat.specs.Terms.{measured_upto, term_height}
use Rattle.moxi_instantiate.specs.Counting.{AreCounted}
use Rattle.moxi_instantiate.proofs.functions.body_heights.Given as goal

abbrev pub invariant-loop-function : goal.invariant-loop-function
invariant-loop-function l = record {
  long : length l.heights.items ≡ l.function-index;
  counted : AreCounted (measured_upto term_height (map plain_function l.functions) l.function-index) l.heights.items;
}
