use Rattle.std.proofs.Common.{◌≡◌, ◌+◌, ◌≤◌, drop, map, length}
use Rattle.smv_items.specs.FlatItemView.{item_plain}
use Rattle.smv_trace.specs.Reading.{variables_of}
use Rattle.smv_trace.proofs.table.variables_in.Given as goal

abbrev pub invariant-loop-k : goal.invariant-loop-k
invariant-loop-k l = record {
  counted : l.count + length (variables_of (map item_plain (drop l.k l.items))) ≡ length (variables_of (map item_plain l.items));
  small : l.count ≤ l.k;
}
