use Rattle.std.proofs.Common.{◌≡◌, drop, map}
use Rattle.smv_items.specs.FlatItemView.{item_plain}
use Rattle.smv_flat.specs.FlatTruth.{items_stay}
use Rattle.smv_flat_evaluation.specs.RowValues.{row_values}
use Rattle.smv_rows.proofs.truth.all_stay.Given as goal

abbrev pub invariant-loop-k : goal.invariant-loop-k
invariant-loop-k l = items_stay (row_values l.now) (row_values l.later) l.k (map item_plain (drop l.k l.items)) ≡ items_stay (row_values l.now) (row_values l.later) 0 (map item_plain l.items)
