use Rattle.std.proofs.Common.{◌≡◌, length, drop, map}
use Rattle.smv_numbered.specs.Values.{stated_by, stated_value}
use Rattle.smv_numbered.proofs.changes.give_changes.Given as goal

abbrev pub invariant-loop-change : goal.invariant-loop-change
invariant-loop-change l = record {
  size : length l.stated.items ≡ length l.fn.stated.items;
  values : stated_by (map stated_value l.stated.items) (drop l.change-index l.changes) ≡ stated_by (map stated_value l.fn.stated.items) l.changes;
}
