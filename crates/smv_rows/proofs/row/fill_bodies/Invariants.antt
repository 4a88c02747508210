use Rattle.std.proofs.Common.{◌≡◌, true, nat_lt, length}
use Rattle.std.specs.List.{list_all}
use Rattle.smv_flat.specs.FlatTruth.{symbol_value}
use Rattle.smv_flat_evaluation.specs.RowValues.{row_values}
use Rattle.smv_rows.specs.Filling.{bodies_in, filled, FillsSafely}
use Rattle.smv_rows.proofs.row.fill_bodies.Given as goal

abbrev pub invariant-loop-k : goal.invariant-loop-k
invariant-loop-k l = record {
  size : length l.values.items ≡ length l.bodies;
  within : list_all (λ k. nat_lt k (length l.bodies)) l.rest ≡ true;
  safe : FillsSafely (bodies_in l.bodies) (symbol_value l.symbols) (row_values l.values.items) l.rest;
  same : filled (bodies_in l.bodies) (symbol_value l.symbols) (row_values l.values.items) l.rest ≡ filled (bodies_in l.bodies) (symbol_value l.symbols) (row_values l.fn.values.items) l.fn.order;
}

abbrev pub decreases-loop-k : goal.decreases-loop-k
decreases-loop-k l = length l.rest
