use Rattle.std.proofs.Common.{◌≡◌, ◌≤◌, ◌-◌, ◌^◌}
use Rattle.moxi_lines.specs.Codes.{choice_width}
use Rattle.moxi_to_btor.proofs.operators.choice_width.Given as goal

abbrev pub invariant-loop-holds : goal.invariant-loop-holds
invariant-loop-holds l = record {
  low : 1 ≤ l.width;
  power : l.holds ≡ 2 ^ l.width;
  least : l.width ≤ choice_width l.count;
}

abbrev pub decreases-loop-holds : goal.decreases-loop-holds
decreases-loop-holds l = l.count - l.holds
