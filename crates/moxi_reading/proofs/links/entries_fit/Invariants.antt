use Rattle.std.proofs.Common.{◌≡◌, length}
use Rattle.std.specs.Slice.Iter.{iter_rest}
use Rattle.std.specs.Iterator.Adapters.{zip_first, zip_second}
use Rattle.moxi_scripts.specs.Links.{entries_fit}
use Rattle.moxi_reading.proofs.links.entries_fit.Given as goal

abbrev pub invariant-loop-x : goal.invariant-loop-x
invariant-loop-x l = record {
  fits : entries_fit (iter_rest (zip_first l.x-iterator)) (iter_rest (zip_second l.x-iterator)) ≡ entries_fit l.a l.b;
  same : length (iter_rest (zip_first l.x-iterator)) ≡ length (iter_rest (zip_second l.x-iterator));
}
