use Rattle.std.proofs.Common.{◌≡◌, ◌≤◌, ◌+◌, ◌-◌, ℕ, length, drop}
use Rattle.moxi_sexpr.specs.Reading.{last_line}
use Rattle.moxi_sexpr.proofs.ends.last_line.Given as goal

abbrev pub invariant-loop-start : goal.invariant-loop-start
invariant-loop-start l = record {
  one_line : (n : ℕ) → last_line n (drop l.start l.text) ≡ n + (length l.text - l.start);
  within : l.start ≤ length l.text;
}

abbrev pub decreases-loop-start : goal.decreases-loop-start
decreases-loop-start l = l.start
