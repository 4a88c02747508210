use Rattle.std.proofs.Common.{◌≡◌, ◌≤◌, ◌-◌, None, replicate, length, map}
use Rattle.smv_numbered.specs.Values.{stated_value}
use Rattle.smv_numbered.proofs.changes.nothing_stated.Given as goal

abbrev pub invariant-loop-stated : goal.invariant-loop-stated
invariant-loop-stated l = record {
  most : length l.stated.items ≤ l.count;
  none : map stated_value l.stated.items ≡ replicate (length l.stated.items) None;
}

abbrev pub decreases-loop-stated : goal.decreases-loop-stated
decreases-loop-stated l = l.count - length l.stated.items
