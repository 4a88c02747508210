use Rattle.std.proofs.Common.{◌≡◌, ◌≤◌, ◌-◌, ℕ, None, length}
use Rattle.smv_rows.specs.Filling.{bodies_in}
use Rattle.smv_rows.proofs.bodies.no_bodies.Given as goal

abbrev pub invariant-loop-bodies : goal.invariant-loop-bodies
invariant-loop-bodies l = record {
  most : length l.bodies.items ≤ length l.items;
  none : (k : ℕ) → bodies_in l.bodies.items k ≡ None;
}

abbrev pub decreases-loop-bodies : goal.decreases-loop-bodies
decreases-loop-bodies l = length l.items - length l.bodies.items
