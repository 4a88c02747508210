use Rattle.std.proofs.Common.{◌≡◌, ◌+◌, map, length}
use Rattle.smv_items.specs.FlatItemView.{item_plain}
use Rattle.smv_flat_evaluation.specs.RowValues.{row_values}
use Rattle.smv_judge.specs.Fits.{items_fit}
use Rattle.smv_judge.proofs.fits.items_fit.Given as goal

abbrev pub invariant-loop-item : goal.invariant-loop-item
invariant-loop-item l = record {
  count : l.k + length l.rest ≡ length l.fn.items;
  same : items_fit (row_values l.values) l.k (map item_plain l.rest) ≡ items_fit (row_values l.values) 0 (map item_plain l.fn.items);
}

abbrev pub decreases-loop-item : goal.decreases-loop-item
decreases-loop-item l = length l.rest
