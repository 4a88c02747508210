use Rattle.std.proofs.Common.{◌≡◌, ◌≤◌, ◌-◌, length, map, replicate}
use Rattle.smv_meaning.specs.Values.{no_value}
use Rattle.smv_operators.specs.View.{seen_value}
use Rattle.smv_rows.proofs.carried.no_values.Given as goal

abbrev pub invariant-loop-values : goal.invariant-loop-values
invariant-loop-values l = record {
  most : length l.values.items ≤ l.count;
  none : map seen_value l.values.items ≡ replicate (length l.values.items) no_value;
}

abbrev pub decreases-loop-values : goal.decreases-loop-values
decreases-loop-values l = l.count - length l.values.items
