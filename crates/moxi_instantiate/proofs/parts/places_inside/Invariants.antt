use Rattle.std.proofs.Common.{◌≡◌, ◌+◌, length}
use Rattle.moxi_instantiate.specs.Copying.{number_in}
use Rattle.moxi_instantiate.proofs.Placed.{ArePlaced}
use Rattle.moxi_instantiate.proofs.parts.places_inside.Given as goal

abbrev pub invariant-loop-number : goal.invariant-loop-number
invariant-loop-number l = record {
  long : length l.inside.items ≡ l.number-index;
  placed : ArePlaced (number_in l.places) l.actuals l.fresh l.inside.items;
}

abbrev pub invariant-loop-k : goal.invariant-loop-k
invariant-loop-k l = record {
  long : length l.inside.items ≡ length l.actuals + l.k;
  placed : ArePlaced (number_in l.places) l.actuals l.fresh l.inside.items;
}
